-- The loop of `Schedule::take_due`: the keys taken so far are the first ones of the index.
use Rattle.std.proofs.Common.{◌≡◌, map, take, drop}
use Rattle.std.specs.Vec.{vec_len, vec_capacity}
use Rattle.sip_timers.proofs.schedule.Schedule.take_due.Given as goal

abbrev pub invariant-loop : goal.invariant-loop
invariant-loop g l = record {
  len : vec_len l.keys ≡ l.counter;
  capacity : vec_capacity l.keys ≡ l.count;
  keys : l.keys.items ≡ map (λ d. d.1) (take l.counter l.initial.self-inside.dues.keys);
  dues : l.self-inside.dues.keys ≡ drop l.counter l.initial.self-inside.dues.keys;
}
