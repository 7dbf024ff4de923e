-- The loop of `transfer`: the shards that are left, and the keys moved from those before them.
use Rattle.std.specs.Vec.Iter.{into_iter_items}
use Rattle.std.proofs.Common.{◌≡◌, length, map}
use Rattle.keyed_machine.specs.Machine.{tick_at}
use Rattle.sip_shards.specs.Parts.{owner_of}
use Rattle.sip_shards.proofs.Transferred.{TransferLeft}
use Rattle.sip_shards.proofs.transfers.transfer.Given as goal

abbrev pub invariant-loop-shard : goal.invariant-loop-shard
invariant-loop-shard g l =
    TransferLeft g.S.Machine.Key.Ord.cmp (g.S.Machine.StateMachine.machine l.machine) tick_at
    (owner_of (g.C.Cut.shard_of l.cut) g.S.Machine.Key.Named.name (length l.fn.others.items))
    (length l.fn.others.items) (map g.S.KeyShard.held l.fn.shards.items)
    (map g.S.KeyShard.held (into_iter_items l.shard-iterator))
    (map g.S.KeyShard.held l.moved.items)
    × (map g.S.KeyShard.machine l.moved.items ≡ map g.S.KeyShard.machine l.fn.others.items)
