-- `part_items`: each turn of the loop adds what one more group gives.
use Rattle.std.proofs.Common.{◌++◌, sym, ◌∙◌, ap}
use Rattle.std.proofs.lemmas.List.{nil_from_length}
use Rattle.std.specs.List.{flat_map}
use Rattle.std.specs.Vec.Iter.{into_iter_items}
use Rattle.keyed_machine.specs.Groups.{groups}
use Rattle.sip_round.specs.Outputs.{command_of}
use Rattle.sip_round.specs.Steps.Form.{call_outputs_as}
use Rattle.sip_round.proofs.Taken.{all_taken, one_taken}
use Rattle.sip_round.proofs.outs.part_items.Goals as goal

pub loop-index-preserved : goal.loop-index-preserved
loop-index-preserved g c = (
  one_taken (λ group. flat_map (call_outputs_as g.F.Form.form
      (g.F.Form.place_at c.args.places.now group.0)) group.1) _ c.loop-index.outputs.items
      c.part_call.new.outputs.items _ _ _ (ap groups c.in-Some.ensures.steps.0)
      (c.in_ok-part_call.ensures.outputs
      ∙ ap (λ place. c.loop-index.outputs.items
      ++ flat_map (call_outputs_as g.F.Form.form place) c.in-Some.outs.items) c.place.ensures)
      c.loop-index.invariant.0,
  one_taken (λ group. flat_map command_of group.1) _ c.loop-index.commands.items
      c.part_call.new.commands.items _ _ _ (ap groups c.in-Some.ensures.steps.0)
      c.in_ok-part_call.ensures.commands
      c.loop-index.invariant.1,
)

pub returns-clause-outputs : goal.returns-clause-outputs
returns-clause-outputs g c =
    let left = c.loop-index.index-iterator in
    all_taken (λ group. flat_map (call_outputs_as g.F.Form.form
    (g.F.Form.place_at c.args.places.now group.0)) group.1) _ c.loop-index.outputs.items
    (groups (into_iter_items left)) (ap groups (nil_from_length (into_iter_items left)
    (sym left.rest.ok.0 ∙ c.in-None.ensures.steps.0))) c.loop-index.invariant.0

pub returns-clause-commands : goal.returns-clause-commands
returns-clause-commands g c =
    let left = c.loop-index.index-iterator in
    all_taken (λ group. flat_map command_of group.1) _ c.loop-index.commands.items
    (groups (into_iter_items left)) (ap groups (nil_from_length (into_iter_items left)
    (sym left.rest.ok.0 ∙ c.in-None.ensures.steps.0))) c.loop-index.invariant.1
