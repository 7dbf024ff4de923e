-- `trimmed_end` takes off the spaces and tabs at the end, and no other byte.
use Rattle.std.proofs.Common.{sym, ◌∙◌}
use Rattle.sip_text.proofs.Ends.{blank_last, other_last}
use Rattle.sip_text.proofs.trim.trimmed_end.Goals as goal

pub loop-rest-preserved : goal.loop-rest-preserved
loop-rest-preserved c =
    blank_last c.loop-rest.rest.now c.in-len1-up.len_at_least
    (sym c.is_blank.ensures ∙ c.if-not-is_blank.false) ∙ c.loop-rest.invariant

pub returns-then-not-is_blank : goal.returns-then-not-is_blank
returns-then-not-is_blank c =
    sym (other_last c.loop-rest.rest.now c.in-len1-up.len_at_least
    (sym c.is_blank.ensures ∙ c.if-not-is_blank.true)) ∙ c.loop-rest.invariant
