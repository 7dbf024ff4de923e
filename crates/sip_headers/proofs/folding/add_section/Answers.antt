-- `add_section` adds the header lines up to the empty line, or finds that there is none.
use Rattle.std.proofs.Common.{sym, ◌∙◌}
use Rattle.sip_headers.specs.Whole.{whole_now}
use Rattle.sip_headers.proofs.Folds.{section_ends, section_goes_on, section_stops, is_empty_text, is_full_text}
use Rattle.sip_headers.proofs.folding.add_section.Goals as goal

pub loop-line-init : goal.loop-line-init
loop-line-init c = c.in_ok-rest.ensures.same

pub returns-then-is_empty : goal.returns-then-is_empty
returns-then-is_empty c =
    section_ends c.loop-line.draft c.loop-line.rest.now c.in-Some.line.now c.in-Some.after.now _
    (sym c.in-Some.ensures.parts) (is_empty_text c.in-Some.line.now
    (sym c.is_empty.ensures ∙ c.if-is_empty.true)) c.loop-line.invariant

pub loop-line-preserved : goal.loop-line-preserved
loop-line-preserved c =
    c.in_ok-rest-2.ensures.same
    ∙ rw (c.in_ok-add.ensures, c.as_slice.ensures)
    (section_goes_on c.loop-line.draft c.loop-line.rest.now c.in-Some.line.now c.in-Some.after.now
    (whole_now c.in_ok-whole.whole) c.in_ok-whole.after.now _ (sym c.in-Some.ensures.parts)
    (is_full_text c.in-Some.line.now (sym c.is_empty.ensures ∙ c.if-is_empty.false))
    c.in_ok-whole.ensures.whole c.loop-line.invariant)

pub returns : goal.returns
returns c = section_stops c.loop-line.draft c.loop-line.rest.now _
    (sym c.in_default.ensures.parts) c.loop-line.invariant
