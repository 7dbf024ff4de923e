-- The loop of `SpreadCut::shard`: it has the sum of the bytes so far, modulo the number of shards.
use Rattle.std.proofs.Common.{◌≡◌, ◌<◌, ◌%◌, take}
use Rattle.std.specs.Prelude.{sum}
use Rattle.sip_message.proofs.cut.SpreadCut.shard.Given as goal

abbrev pub invariant-loop-byte : goal.invariant-loop-byte
invariant-loop-byte l =
    record { is : l.sum ≡ sum (take l.byte-index l.name) % l.shards; within : l.sum < l.shards }
