-- `begin_second`: each turn of the loop puts one more item into the part of its call's shard.
use Rattle.std.proofs.Common.{◌≡◌, ℕ, ◌+◌, suc, [], length, map, ap, arith, refl, subst, sym, ◌∙◌}
use Rattle.std.proofs.lemmas.List.{nil_from_length}
use Rattle.std.specs.Vec.Iter.{into_iter_items}
use Rattle.sip_user.specs.Command.{call_of_item}
use Rattle.sip_shards.specs.Parts.{owner_of}
use Rattle.sip_shards.specs.Steps.Put.{with_item}
use Rattle.sip_round.specs.Phases.{call_items}
use Rattle.sip_shards.proofs.Cutting.{PartsLeft, parts_empty, one_put, parts_whole}
use Rattle.sip_round.proofs.Numbered.{same_item}
use Rattle.sip_round.proofs.phases.begin_second.Goals as goal

pub loop-id-init : goal.loop-id-init
loop-id-init g c =
    let gives = c.into_iter-id-iterator.ensures.into_iter_gives.0 in (
      parts_empty (owner_of (g.C.Cut.shard_of c.args.cut.now) (λ call_id. call_id) c.args.shards)
          c.args.shards (call_items 0 c.args.items.items) _ _ c.in_ok-parts.parts.items _
          (ap (call_items 0) gives)
          (omega (arith, c.in_ok-parts.parts.ok, c.in_ok-parts.ensures.count))
          c.in_ok-parts.ensures.empty,
      omega (arith, ap length gives),
    )

pub loop-id-preserved : goal.loop-id-preserved
loop-id-preserved g c =
    let owner = owner_of (g.C.Cut.shard_of c.args.cut.now) (λ call_id. call_id) c.args.shards in
    let all = call_items 0 c.args.items.items in
    let lists = map (λ part. part.items) c.loop-id.parts.items in
    let place = c.loop-id.place in
    let rest = into_iter_items c.next.new.self in
    let key = call_of_item c.in-Some.item in
    let steps = c.in-Some.ensures.steps.0 in
    let left = subst (λ items. PartsLeft owner c.args.shards all (call_items place items) lists)
    steps c.loop-id.invariant.0 in
    let put = c.in_ok-put.ensures ∙ ap (λ item. with_item owner item lists)
    (same_item place place _ key _ _ refl
    (c.in_ok-key.ensures.cases ∙ c.call_id.ensures) refl) in (
      subst (λ n. PartsLeft owner c.args.shards all (call_items n rest)
          (map (λ part. part.items) c.put.new.parts.items)) (next place)
          (one_put owner c.args.shards all (record {
            place = place;
            key = key;
            input = (c.in-Some.id, c.in-Some.item);
          })
          (call_items (suc place) rest) lists (map (λ part. part.items) c.put.new.parts.items)
          (g.met.C.Cut.within c.args.cut.now key c.args.shards c.requires.some) put left),
      omega (arith, c.loop-id.invariant.1, ap length steps),
    )
  where
    next : (n : ℕ) → suc n ≡ n + 1
    next n = omega arith

pub returns-clause-parts : goal.returns-clause-parts
returns-clause-parts g c =
    let owner = owner_of (g.C.Cut.shard_of c.args.cut.now) (λ call_id. call_id) c.args.shards in
    let all = call_items 0 c.args.items.items in
    let lists = map (λ part. part.items) c.loop-id.parts.items in
    let left = c.loop-id.id-iterator in
    let nothing_left : into_iter_items left ≡ [] =
    nil_from_length (into_iter_items left) (sym left.rest.ok.0 ∙ c.in-None.ensures.steps.0) in
    parts_whole owner c.args.shards all lists
    (subst (λ items. PartsLeft owner c.args.shards all (call_items c.loop-id.place items) lists)
    nothing_left c.loop-id.invariant.0)
