-- The loop of `begin_second`: the parts so far, and the items that are left.
use Rattle.std.proofs.Common.{◌≡◌, ◌+◌, length, map}
use Rattle.std.specs.Vec.Iter.{into_iter_items}
use Rattle.sip_shards.specs.Parts.{owner_of}
use Rattle.sip_round.specs.Phases.{call_items}
use Rattle.sip_shards.proofs.Cutting.{PartsLeft}
use Rattle.sip_round.proofs.phases.begin_second.Given as goal

-- the parts of the items so far, and the place of the next
abbrev pub invariant-loop-id : goal.invariant-loop-id
invariant-loop-id g l =
    let left = into_iter_items l.id-iterator in
    PartsLeft (owner_of (g.C.Cut.shard_of l.cut) (λ call_id. call_id) l.shards) l.shards
    (call_items 0 l.fn.items.items) (call_items l.place left)
    (map (λ part. part.items) l.parts.items)
    × (l.place + length left ≡ length l.fn.items.items)
