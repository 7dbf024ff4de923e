-- `part_all`: each turn of the loop adds what one more group gives.
use Rattle.std.proofs.Common.{sym, ◌∙◌, ap}
use Rattle.std.proofs.lemmas.List.{nil_from_length}
use Rattle.std.specs.List.{flat_map}
use Rattle.std.specs.Vec.Iter.{into_iter_items}
use Rattle.keyed_machine.specs.Groups.{groups}
use Rattle.sip_round.specs.Outputs.{raised_of}
use Rattle.sip_round.specs.Steps.Form.{sent_as}
use Rattle.sip_round.proofs.Taken.{all_taken, one_taken}
use Rattle.sip_round.proofs.outs.part_all.Goals as goal

pub loop-outs-preserved : goal.loop-outs-preserved
loop-outs-preserved g c = (
  one_taken (λ group. flat_map (sent_as g.F.Form.form c.args.id.place) group.1) _
      c.loop-outs.outputs.items c.part.new.outputs.items _ _ _ (ap groups c.in-Some.ensures.steps.0)
      c.in_ok-part.ensures.outputs
      c.loop-outs.invariant.0,
  one_taken (λ group. flat_map (raised_of c.args.id) group.1) _
      c.loop-outs.items.items c.part.new.items.items _ _ _ (ap groups c.in-Some.ensures.steps.0)
      c.in_ok-part.ensures.items
      c.loop-outs.invariant.1,
)

pub returns-clause-outputs : goal.returns-clause-outputs
returns-clause-outputs g c =
    let left = c.loop-outs.outs-iterator in
    all_taken (λ group. flat_map (sent_as g.F.Form.form c.args.id.place) group.1) _
    c.loop-outs.outputs.items (groups (into_iter_items left))
    (ap groups (nil_from_length (into_iter_items left)
    (sym left.rest.ok.0 ∙ c.in-None.ensures.steps.0)))
    c.loop-outs.invariant.0

pub returns-clause-items : goal.returns-clause-items
returns-clause-items g c =
    let left = c.loop-outs.outs-iterator in
    all_taken (λ group. flat_map (raised_of c.args.id) group.1) _
    c.loop-outs.items.items (groups (into_iter_items left))
    (ap groups (nil_from_length (into_iter_items left)
    (sym left.rest.ok.0 ∙ c.in-None.ensures.steps.0)))
    c.loop-outs.invariant.1
