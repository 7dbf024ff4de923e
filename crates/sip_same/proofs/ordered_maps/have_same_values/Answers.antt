-- `have_same_values`: each turn of the loop takes one value of both.
use Rattle.std.proofs.Common.{sym, ◌∙◌}
use Rattle.std.proofs.lemmas.Bool.{false≢true}
use Rattle.sip_same.proofs.SameRests.{next_differs, next_same}
use Rattle.sip_same.proofs.ordered_maps.have_same_values.Goals as goal

pub returns-in_default : goal.returns-in_default
returns-in_default g c = (
  λ yes. absurd (false≢true yes),
  λ same. absurd (next_differs c.loop-value.value-iterator c.loop-value.others c.next.new.self
      c.next-in-loop-value.new.self c.in-Some.value.now c.in-Some-next.other.now
      c.loop-value.invariant c.in-Some.ensures.steps c.in-Some-next.ensures.steps
      (λ equal. false≢true (sym c.if-is_same.false ∙ c.is_same.ensures.1 equal)) same),
)

pub loop-value-preserved : goal.loop-value-preserved
loop-value-preserved g c =
    next_same c.loop-value.value-iterator c.loop-value.others c.next.new.self
    c.next-in-loop-value.new.self c.in-Some.value.now c.in-Some-next.other.now
    c.loop-value.invariant c.in-Some.ensures.steps c.in-Some-next.ensures.steps
    (c.is_same.ensures.0 c.if-is_same.true)
