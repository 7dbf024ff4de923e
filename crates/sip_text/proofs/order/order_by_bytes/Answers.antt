-- `order_by_bytes`, which compares byte by byte, gives the order of the two texts.
use Rattle.std.proofs.Common.{refl, arith, ◌∙◌}
use Rattle.sip_text.proofs.WordOrder.{bytes_agree, bytes_differ, lengths_decide}
use Rattle.sip_text.proofs.order.order_by_bytes.Goals as goal

pub loop-place-init : goal.loop-place-init
loop-place-init c = refl

pub returns-then-a-place : goal.returns-then-a-place
returns-then-a-place c =
    c.cmp.ensures
    ∙ bytes_differ c.args.a.now c.args.b.now c.loop-place.place (omega arith) (omega arith)
    c.loop-place.invariant c.if-a-place.true

pub loop-place-preserved : goal.loop-place-preserved
loop-place-preserved c =
    bytes_agree c.args.a.now c.args.b.now c.loop-place.place (omega arith) (omega arith)
    c.loop-place.invariant c.if-a-place.false

pub returns : goal.returns
returns c =
    c.cmp-2.ensures
    ∙ lengths_decide c.args.a.now c.args.b.now c.loop-place.place (omega arith)
    c.loop-place.invariant
