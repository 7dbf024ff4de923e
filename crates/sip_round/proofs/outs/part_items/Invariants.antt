-- The loop of `part_items`: outputs and commands so far, with those of the groups left.
use Rattle.std.proofs.Common.{◌≡◌, ◌++◌, ℕ}
use Rattle.std.specs.List.{flat_map}
use Rattle.std.specs.Vec.Iter.{into_iter_items}
use Rattle.keyed_machine.specs.Groups.{groups}
use Rattle.sip_round.specs.Outputs.{command_of}
use Rattle.sip_round.specs.Steps.Form.{call_outputs_as}
use Rattle.sip_round.proofs.outs.part_items.Given as goal

abbrev pub invariant-loop-index : goal.invariant-loop-index
invariant-loop-index g l =
    let given = λ (index : ℕ). call_outputs_as g.F.Form.form (g.F.Form.place_at l.places index) in
    (l.outputs.items ++ flat_map (λ group. flat_map (given group.0) group.1)
    (groups (into_iter_items l.index-iterator)) ≡ l.fn.outputs.items
    ++ flat_map (λ group. flat_map (given group.0) group.1) (groups l.fn.told.items))
    × (l.commands.items ++ flat_map (λ group. flat_map command_of group.1)
    (groups (into_iter_items l.index-iterator)) ≡ l.fn.commands.items
    ++ flat_map (λ group. flat_map command_of group.1) (groups l.fn.told.items))
