-- `whole_lines` takes off all bytes after the last LF, and no others.
use Rattle.std.proofs.Common.{sym, ◌∙◌}
use Rattle.sip_ua.proofs.WholeLines.{last_cut_off, last_kept}
use Rattle.sip_ua.proofs.repair.whole_lines.Goals as goal

pub loop-rest-preserved : goal.loop-rest-preserved
loop-rest-preserved c =
    last_cut_off c.loop-rest.rest.now c.in-len1-up.len_at_least
    (sym c.is_in_line.ensures ∙ c.if-not-is_in_line.false) ∙ c.loop-rest.invariant

pub returns-then-not-is_in_line : goal.returns-then-not-is_in_line
returns-then-not-is_in_line c =
    sym (last_kept c.loop-rest.rest.now c.in-len1-up.len_at_least
    (sym c.is_in_line.ensures ∙ c.if-not-is_in_line.true)) ∙ c.loop-rest.invariant
