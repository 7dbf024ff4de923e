-- The shards up to the place hold the same.
use Rattle.std.proofs.Common.{take}
use Rattle.std.specs.List.{AllZip}
use Rattle.keyed_machine.specs.SameTables.{HoldTheSame}
use Rattle.sip_shards.proofs.same_shards.hold_the_same.Given as goal

abbrev pub invariant-loop-place : goal.invariant-loop-place
invariant-loop-place g l =
    AllZip (λ shard other. HoldTheSame g.S.Machine.Key.Ord.cmp (g.S.KeyShard.held shard)
    (g.S.KeyShard.held other)) (take l.place l.shards) (take l.place l.others)
