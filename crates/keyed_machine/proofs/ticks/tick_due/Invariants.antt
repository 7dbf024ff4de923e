-- The loop of `tick_due`: the keys ticked so far, and those that are left.
use Rattle.std.specs.Vec.Iter.{into_iter_items}
use Rattle.keyed_machine.specs.Machine.{tick_at}
use Rattle.keyed_machine.specs.Groups.{groups}
use Rattle.keyed_machine.specs.Table.{state_in}
use Rattle.keyed_machine.proofs.Tick.{TickLeft}
use Rattle.keyed_machine.proofs.ticks.tick_due.Given as goal

abbrev pub invariant-loop-key : goal.invariant-loop-key
invariant-loop-key g l =
    TickLeft g.M.Key.Ord.cmp (g.M.StateMachine.machine l.machine) g.M.StateMachine.due
    (tick_at l.now) (state_in g.M.Key.Ord.cmp l.fn.states.entries)
    (into_iter_items l.initial.key-iterator) (into_iter_items l.key-iterator)
    (state_in g.M.Key.Ord.cmp l.states.entries) l.dues (groups l.told.items)
