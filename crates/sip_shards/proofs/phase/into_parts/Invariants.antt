-- The loop of `into_parts`: the dones taken apart so far, and those that are left.
use Rattle.std.specs.Vec.Iter.{into_iter_items}
use Rattle.keyed_machine.specs.Groups.{groups}
use Rattle.sip_shards.proofs.Piled.{DonesLeft}
use Rattle.sip_shards.proofs.phase.into_parts.Given as goal

abbrev pub invariant-loop-done : goal.invariant-loop-done
invariant-loop-done g l =
    DonesLeft (λ dealt. dealt.shard) (λ dealt. groups dealt.replies.ticks.items)
    (λ dealt. groups dealt.replies.items.items)
    l.fn.dones.items (into_iter_items l.done-iterator) l.shards.items (groups l.ticks.items)
    (groups l.items.items)
