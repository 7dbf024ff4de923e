-- The loop of `transfer_shard`: the keys that are left, and those moved so far.
use Rattle.std.proofs.Common.{◌≡◌, map}
use Rattle.std.specs.List.{IsDistinct}
use Rattle.std.specs.Map.{keys_of}
use Rattle.std.specs.Ordering.{eq_by_cmp}
use Rattle.keyed_machine.specs.Table.{state_at, state_in}
use Rattle.sip_shards.specs.Parts.{owner_of}
use Rattle.sip_shards.proofs.Transferred.{TableLeft}
use Rattle.sip_shards.proofs.transfers.transfer_shard.Given as goal

abbrev pub invariant-loop-key : goal.invariant-loop-key
invariant-loop-key g l =
    TableLeft g.met.S.Machine.Key.Ord.total g.met.S.Machine.StateMachine.exact
    (owner_of (g.C.Cut.shard_of l.cut) g.S.Machine.Key.Named.name l.count) l.count
    (state_at g.S.Machine.Key.Ord.cmp (g.S.KeyShard.held l.fn.shard))
    (state_in g.S.Machine.Key.Ord.cmp l.key-iterator)
    (map g.S.KeyShard.held l.initial.moved.items) (map g.S.KeyShard.held l.moved.items)
    × IsDistinct (eq_by_cmp g.S.Machine.Key.Ord.cmp) (keys_of l.key-iterator)
    × (map g.S.KeyShard.machine l.moved.items ≡ map g.S.KeyShard.machine l.initial.moved.items)
