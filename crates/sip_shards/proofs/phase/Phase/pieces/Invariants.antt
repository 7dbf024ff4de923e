-- The loop of `Phase::pieces`: the pieces so far, and the shards and parts that are left.
use Rattle.std.proofs.Common.{◌≡◌, map}
use Rattle.std.specs.Vec.Iter.{into_iter_items}
use Rattle.sip_workers.specs.Ran.{IsNumbered}
use Rattle.sip_shards.proofs.Piled.{PiecesLeft}
use Rattle.sip_shards.proofs.phase.Phase.pieces.Given as goal

abbrev pub invariant-loop-shard : goal.invariant-loop-shard
invariant-loop-shard g l =
    PiecesLeft (λ piece. piece.job.shard) (λ piece. piece.job.items.items)
    (λ piece. (piece.job.now ≡ l.fn.self.moment) × (piece.job.ticks ≡ l.fn.self.ticks))
    l.fn.self.shards.items (into_iter_items l.shard-iterator)
    (map (λ part. part.items) l.fn.self.parts.items)
    (map (λ part. part.items) (into_iter_items l.left)) l.pieces.items
    × IsNumbered l.pieces.items
