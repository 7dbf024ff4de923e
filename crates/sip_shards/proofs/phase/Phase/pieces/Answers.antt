-- `Phase::pieces`: each turn of the loop makes one more piece, of a shard and its part.
use Rattle.std.proofs.Common.{◌≡◌, ◌++◌, [], length, map, refl, sym, ◌∙◌, ap, subst, append-nil, arith}
use Rattle.std.proofs.lemmas.List.{length-map, nil_from_length}
use Rattle.std.specs.Vec.Iter.{into_iter_items}
use Rattle.sip_workers.specs.Ran.{IsNumbered}
use Rattle.sip_workers.proofs.Gathers.{numbered_more}
use Rattle.sip_shards.proofs.Piled.{one_piece}
use Rattle.sip_shards.proofs.phase.Phase.pieces.Goals as goal

pub loop-shard-preserved : goal.loop-shard-preserved
loop-shard-preserved g c = (
  one_piece (λ piece. piece.job.shard) (λ piece. piece.job.items.items)
      (λ piece. (piece.job.now ≡ c.args.self.moment) × (piece.job.ticks ≡ c.args.self.ticks))
      c.args.self.shards.items (map (λ part. part.items) c.args.self.parts.items)
      c.in-Some.shard _ (into_iter_items c.next.new.self) c.in-Some-next.items.items _
      (map (λ part. part.items) (into_iter_items c.next-in-loop-shard.new.self))
      c.loop-shard.pieces.items c.push.new.self.items _
      c.in-Some.ensures.steps.0 (ap (map (λ part. part.items)) c.in-Some-next.ensures.items)
      c.in_ok-push.ensures.items refl refl (refl, refl) c.loop-shard.invariant.0,
  subst IsNumbered (sym c.in_ok-push.ensures.items)
      (numbered_more c.loop-shard.pieces.items _ c.loop-shard.invariant.1
      (omega (arith, c.len-number.ensures, c.loop-shard.pieces.ok))),
)

-- there are as many parts left as shards
pub unreachable-unreachable : goal.unreachable-unreachable
unreachable-unreachable g c =
    let left = c.loop-shard.left in
    let none : length (into_iter_items left) ≡ 0 =
    sym left.rest.ok.0 ∙ c.in_default.ensures.cases.0 in
    omega (
      arith,
      none,
      length-map (into_iter_items left) (λ part. part.items),
      c.loop-shard.invariant.0.even,
      ap length c.in-Some.ensures.steps.0,
    )

pub returns-clause-numbered : goal.returns-clause-numbered
returns-clause-numbered g c = c.loop-shard.invariant.1

pub returns-clause-shared : goal.returns-clause-shared
returns-clause-shared g c = c.loop-shard.invariant.0.shared

pub returns-clause-shards : goal.returns-clause-shards
returns-clause-shards g c =
    let left = c.loop-shard.shard-iterator in
    let made = map (λ piece. piece.job.shard) c.loop-shard.pieces.items in
    let none : into_iter_items left ≡ [] =
    nil_from_length (into_iter_items left) (sym left.rest.ok.0 ∙ c.in-None.ensures.steps.0) in
    sym (append-nil made) ∙ ap (λ shards. made ++ shards) (sym none)
    ∙ c.loop-shard.invariant.0.tables_are

pub returns-clause-parts : goal.returns-clause-parts
returns-clause-parts g c =
    let left = c.loop-shard.shard-iterator in
    let made = map (λ piece. piece.job.items.items) c.loop-shard.pieces.items in
    let parts = map (λ part. part.items) (into_iter_items c.loop-shard.left) in
    let none : parts ≡ [] =
    nil_from_length parts
    (c.loop-shard.invariant.0.even ∙ sym left.rest.ok.0 ∙ c.in-None.ensures.steps.0) in
    sym (append-nil made) ∙ ap (λ parts. made ++ parts) (sym none)
    ∙ c.loop-shard.invariant.0.parts_are
