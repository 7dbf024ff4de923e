-- The loop of `part_all`: outputs and items so far, with those of the groups left.
use Rattle.std.proofs.Common.{◌≡◌, ◌++◌}
use Rattle.std.specs.List.{flat_map}
use Rattle.std.specs.Vec.Iter.{into_iter_items}
use Rattle.keyed_machine.specs.Groups.{groups}
use Rattle.sip_round.specs.Outputs.{raised_of}
use Rattle.sip_round.specs.Steps.Form.{sent_as}
use Rattle.sip_round.proofs.outs.part_all.Given as goal

abbrev pub invariant-loop-outs : goal.invariant-loop-outs
invariant-loop-outs g l =
    let given = sent_as g.F.Form.form l.id.place in
    (l.outputs.items ++ flat_map (λ group. flat_map given group.1)
    (groups (into_iter_items l.outs-iterator))
    ≡ l.fn.outputs.items ++ flat_map (λ group. flat_map given group.1) (groups l.fn.told.items))
    × (l.items.items ++ flat_map (λ group. flat_map (raised_of l.id) group.1)
    (groups (into_iter_items l.outs-iterator)) ≡ l.fn.items.items
    ++ flat_map (λ group. flat_map (raised_of l.id) group.1) (groups l.fn.told.items))
