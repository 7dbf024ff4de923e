-- The loop of `part_ticks`: outputs and commands so far, with those of the groups left.
use Rattle.std.proofs.Common.{◌≡◌, ◌++◌}
use Rattle.std.specs.List.{flat_map}
use Rattle.std.specs.Vec.Iter.{into_iter_items}
use Rattle.keyed_machine.specs.Groups.{groups}
use Rattle.sip_round.specs.Outputs.{command_of}
use Rattle.sip_round.specs.Steps.Form.{call_outputs_as}
use Rattle.sip_round.proofs.outs.part_ticks.Given as goal

abbrev pub invariant-loop-outs : goal.invariant-loop-outs
invariant-loop-outs g l =
    let given = call_outputs_as g.F.Form.form 0 in
    (l.outputs.items ++ flat_map (λ group. flat_map given group.1)
    (groups (into_iter_items l.outs-iterator))
    ≡ l.fn.outputs.items ++ flat_map (λ group. flat_map given group.1) (groups l.fn.told.items))
    × (l.commands.items ++ flat_map (λ group. flat_map command_of group.1)
    (groups (into_iter_items l.outs-iterator)) ≡ l.fn.commands.items
    ++ flat_map (λ group. flat_map command_of group.1) (groups l.fn.told.items))
