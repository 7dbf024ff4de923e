-- `behind_first_line` skips empty lines, and then the first line.
use Rattle.std.proofs.Common.{drop, sym, ap, ◌∙◌}
use Rattle.sip_headers.proofs.Folds.{is_empty_text, is_full_text}
use Rattle.sip_agents.proofs.CallIdLines.{empty_first, full_first, no_head}
use Rattle.sip_agents.proofs.call_id.behind_first_line.Goals as goal

pub returns-then-not-is_empty : goal.returns-then-not-is_empty
returns-then-not-is_empty c =
    full_first c.loop-line.rest.now c.in-Some.line.now c.in-Some.after.now
    (sym c.in-Some.ensures.parts)
    (is_full_text c.in-Some.line.now (sym c.is_empty.ensures ∙ c.if-not-is_empty.true))
    ∙ ap (drop 1) c.loop-line.invariant

pub loop-line-preserved : goal.loop-line-preserved
loop-line-preserved c =
    empty_first c.loop-line.rest.now c.in-Some.line.now c.in-Some.after.now
    (sym c.in-Some.ensures.parts)
    (is_empty_text c.in-Some.line.now (sym c.is_empty.ensures ∙ c.if-not-is_empty.false))
    ∙ c.loop-line.invariant

pub returns : goal.returns
returns c =
    ap (drop 1) (no_head c.loop-line.rest.now (sym c.in_default.ensures.parts)
    ∙ c.loop-line.invariant)
