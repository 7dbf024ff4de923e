-- The loop of `parts_by_name`: the parts so far, with those of the items left, are the parts of
-- all.
use Rattle.std.proofs.Common.{map}
use Rattle.std.specs.Vec.Iter.{into_iter_items}
use Rattle.sip_shards.specs.Parts.{owner_of}
use Rattle.sip_shards.proofs.Cutting.{PartsLeft}
use Rattle.sip_shards.proofs.parts.parts_by_name.Given as goal

abbrev pub invariant-loop-item : goal.invariant-loop-item
invariant-loop-item g l =
    PartsLeft (owner_of (g.C.Cut.shard_of l.cut) g.K.Named.name l.shards) l.shards l.fn.items.items
    (into_iter_items l.item-iterator) (map (λ part. part.items) l.parts.items)
