-- The loop of `Queue::take_due`: the keys replaced so far and those still to find are the due keys.
use Rattle.std.proofs.Common.{◌≡◌, ◌++◌, take, drop}
use Rattle.sip_timers.specs.Queue.{due_keys, later}
use Rattle.sip_timers.proofs.Taking.{own_keys, without}
use Rattle.sip_timers.proofs.queue.Queue.take_due.Given as goal

abbrev pub invariant-loop-key : goal.invariant-loop-key
invariant-loop-key g l = record {
  given : take l.key-index l.key-items
      ++ own_keys g.K.Ord.cmp (drop l.key-index l.key-items) l.self-inside.moments.entries
      ≡ due_keys l.now l.fn.self;
  left : without g.K.Ord.cmp (drop l.key-index l.key-items) l.self-inside.moments.entries
      ≡ later l.now l.fn.self;
  dues : l.self-inside.dues ≡ l.initial.self-inside.dues;
}
