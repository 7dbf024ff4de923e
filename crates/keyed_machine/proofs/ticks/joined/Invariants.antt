-- The loop of `joined`: the outputs so far, with those of the groups that are left, are all
-- outputs.
use Rattle.std.proofs.Common.{◌≡◌, ◌++◌}
use Rattle.std.specs.List.{flat_map}
use Rattle.std.specs.Vec.Iter.{into_iter_items}
use Rattle.keyed_machine.proofs.ticks.joined.Given as goal

abbrev pub invariant-loop-said : goal.invariant-loop-said
invariant-loop-said g l = l.outputs.items
    ++ flat_map (λ group. group.1.items) (into_iter_items l.said-iterator)
    ≡ flat_map (λ group. group.1.items) l.fn.told.items
