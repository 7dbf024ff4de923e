-- `Queue::next_due` gives the earliest moment: that of a key, with none before it.
use Rattle.std.specs.List.Sorted.{IsStrictlySortedBy}
use Rattle.std.specs.Map.{keys_of}
use Rattle.sip_timers.specs.Queue.{moment}
use Rattle.sip_timers.proofs.Moments.{earliest}
use Rattle.sip_timers.proofs.queue.Queue.next_due.Goals as goal

pub returns-clause-none_before : goal.returns-clause-none_before
returns-clause-none_before g c =
    c.next_due.ensures.none_before (moment g.K.Ord.cmp c.args.self.now)
    (rw (← c.self.view_is) c.self.invariant.1)

pub returns-clause-of_a_key : goal.returns-clause-of_a_key
returns-clause-of_a_key g c =
    c.next_due.ensures.of_a_key (moment g.K.Ord.cmp c.args.self.now)
    (rw (← c.self.view_is) c.self.invariant.1)

pub returns-clause-none_armed : goal.returns-clause-none_armed
returns-clause-none_armed g c =
    c.next_due.ensures.none_due (moment g.K.Ord.cmp c.args.self.now)
    (rw (← c.self.view_is) c.self.invariant.1)

pub returns-clause-earliest : goal.returns-clause-earliest
returns-clause-earliest g c =
    let sorted : IsStrictlySortedBy g.K.Ord.cmp (keys_of c.args.self.now) =
    rw (← c.self.view_is) c.self.invariant.0 in
    earliest g.met.K.Ord.total c.args.self.now sorted c.next_due.result
    (returns-clause-none_before g c) (returns-clause-of_a_key g c) (returns-clause-none_armed g c)
