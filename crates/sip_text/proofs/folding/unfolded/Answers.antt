-- `unfolded` gives the text with each fold as one space.
use Rattle.std.proofs.Common.{sym, refl, ◌∙◌, arith}
use Rattle.sip_text.specs.Unfolded.{unfolded}
use Rattle.sip_text.proofs.LineParts.{goes_on, begins_anew, last_line, length-trimmed_start-le}
use Rattle.sip_text.proofs.folding.unfolded.Goals as goal

pub loop-line-init : goal.loop-line-init
unfolding unfolded
loop-line-init c = rw c.new-whole.ensures.items refl

pub loop-line-smaller-then-begins_blank : goal.loop-line-smaller-then-begins_blank
loop-line-smaller-then-begins_blank c =
    let le = length-trimmed_start-le c.in-Some.after.now in
    rw c.trimmed_start-rest.ensures (omega (arith, le, c.in-Some.ensures.length))

pub loop-line-preserved-then-begins_blank : goal.loop-line-preserved-then-begins_blank
loop-line-preserved-then-begins_blank c =
    let whole = c.loop-line.whole.items in
    rw (
      c.in_ok-push.ensures.items,
      c.trim_break.ensures,
      c.in_ok-extend_from_slice.ensures.items,
      c.trimmed_start-rest.ensures,
    )
    (goes_on whole c.loop-line.rest.now c.in-Some.line.now c.in-Some.after.now
    (sym c.in-Some.ensures.parts) (sym c.begins_blank.ensures ∙ c.if-begins_blank.true)
    ∙ c.loop-line.invariant)

pub loop-line-preserved : goal.loop-line-preserved
loop-line-preserved c =
    let whole = c.loop-line.whole.items in
    rw (c.in_ok-push-2.ensures.items, c.in_ok-extend_from_slice.ensures.items)
    (begins_anew whole c.loop-line.rest.now c.in-Some.line.now c.in-Some.after.now
    (sym c.in-Some.ensures.parts) (sym c.begins_blank.ensures ∙ c.if-begins_blank.false)
    ∙ c.loop-line.invariant)

pub returns : goal.returns
returns c =
    rw c.in_ok-extend_from_slice-2.ensures.items
    (last_line c.loop-line.whole.items c.loop-line.rest.now (sym c.in_default.ensures.parts)
    ∙ c.loop-line.invariant)
