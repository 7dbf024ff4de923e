-- `byte_order`, which compares words of eight bytes, gives the order of the two texts.
use Rattle.std.proofs.Common.{◌+◌, ◌-◌, ◌≡◌, ◌∙◌, refl, arith}
use Rattle.std.specs.declared.cmp.Ordering.TheVariants.{Equal}
use Rattle.sip_text.proofs.WordOrder.{order_to, equal_before, lengths_decide, words_agree, words_differ}
use Rattle.sip_text.proofs.order.byte_order.Goals as goal
use Rattle.sip_text.proofs.order.byte_order.Goals.{After-word_at-other-2}

pub loop-place-init : goal.loop-place-init
loop-place-init c = record { within = omega arith; equal = refl }

pub returns-then-one-other : goal.returns-then-one-other
returns-then-one-other c =
    c.cmp.ensures
    ∙ words_differ c.args.a.now c.args.b.now c.type_inv.a c.type_inv.b c.loop-place.place
    c.word_at-one.result c.word_at-other.result (omega arith) (omega arith)
    c.loop-place.invariant.equal c.word_at-one.ensures c.word_at-other.ensures c.if-one-other.true

pub loop-place-preserved : goal.loop-place-preserved
loop-place-preserved c =
    let before = c.loop-place.invariant.equal in
    let further = words_agree c.args.a.now c.args.b.now c.type_inv.a c.type_inv.b
    c.loop-place.place c.word_at-one.result c.word_at-other.result (omega arith) (omega arith)
    before c.word_at-one.ensures c.word_at-other.ensures c.if-one-other.false in
    record { within = omega arith; equal = further }

equal_to_last : (c : After-word_at-other-2)
    → order_to c.args.a.now c.args.b.now (c.min-both.result - 8) ≡ Equal
equal_to_last c =
    equal_before c.args.a.now c.args.b.now c.loop-place.place (c.min-both.result - 8)
    (omega arith) (omega arith) (omega arith) c.loop-place.invariant.equal

pub returns-then-one-other-2 : goal.returns-then-one-other-2
returns-then-one-other-2 c =
    let before = equal_to_last (goal.at.returns-then-one-other-2 c).After-word_at-other-2 in
    c.cmp-then-one-other-2.ensures
    ∙ words_differ c.args.a.now c.args.b.now c.type_inv.a c.type_inv.b (c.min-both.result - 8)
    c.word_at-one-2.result c.word_at-other-2.result (omega arith) (omega arith)
    before c.word_at-one-2.ensures c.word_at-other-2.ensures c.if-one-other-2.true

pub returns : goal.returns
returns c =
    let before = equal_to_last (goal.at.returns c).After-word_at-other-2 in
    let all = words_agree c.args.a.now c.args.b.now c.type_inv.a c.type_inv.b
    (c.min-both.result - 8) c.word_at-one-2.result c.word_at-other-2.result (omega arith)
    (omega arith) before c.word_at-one-2.ensures c.word_at-other-2.ensures c.if-one-other-2.false in
    c.cmp-2.ensures
    ∙ lengths_decide c.args.a.now c.args.b.now (c.min-both.result - 8 + 8) (omega arith) all
