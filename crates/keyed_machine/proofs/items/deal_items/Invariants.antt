-- The loop of `deal_items`: the items dealt so far, and those that are left.
use Rattle.std.specs.Vec.Iter.{into_iter_items}
use Rattle.keyed_machine.specs.Phase.{timed_items}
use Rattle.keyed_machine.specs.Groups.{groups}
use Rattle.keyed_machine.specs.Table.{state_in}
use Rattle.keyed_machine.proofs.ItemsLeft.{ItemsLeft}
use Rattle.keyed_machine.proofs.items.deal_items.Given as goal

abbrev pub invariant-loop-place : goal.invariant-loop-place
invariant-loop-place g l =
    ItemsLeft g.M.Key.Ord.cmp (g.M.StateMachine.machine l.machine) g.M.StateMachine.due
    (state_in g.M.Key.Ord.cmp l.fn.states.entries) (timed_items l.now l.fn.items.items)
    (timed_items l.now (into_iter_items l.place-iterator))
    (state_in g.M.Key.Ord.cmp l.states.entries) l.dues
    (groups l.told.items)
