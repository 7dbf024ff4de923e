-- `parts_by_name`: each turn of the loop puts one more item into its part.
use Rattle.std.proofs.Common.{◌≡◌, [], map, sym, ◌∙◌, subst, arith}
use Rattle.std.proofs.lemmas.List.{nil_from_length}
use Rattle.std.specs.Vec.Iter.{into_iter_items}
use Rattle.sip_shards.specs.Parts.{owner_of}
use Rattle.sip_shards.proofs.Cutting.{PartsLeft, parts_empty, one_put, parts_whole}
use Rattle.sip_shards.proofs.parts.parts_by_name.Goals as goal

pub loop-item-init : goal.loop-item-init
loop-item-init g c =
    parts_empty (owner_of (g.C.Cut.shard_of c.args.cut.now) g.K.Named.name c.args.shards)
    c.args.shards c.args.items.items _ (λ part. part.items) c.in_ok-parts.parts.items
    _ c.into_iter-item-iterator.ensures.into_iter_gives.0
    (omega (arith, c.in_ok-parts.parts.ok, c.in_ok-parts.ensures.count))
    c.in_ok-parts.ensures.empty

pub loop-item-preserved : goal.loop-item-preserved
loop-item-preserved g c =
    let shard_of = g.C.Cut.shard_of c.args.cut.now in
    let owner = owner_of shard_of g.K.Named.name c.args.shards in
    let item = c.in-Some.item in
    let lists = map (λ part. part.items) c.loop-item.parts.items in
    one_put owner c.args.shards c.args.items.items item (into_iter_items c.next.new.self) lists
    (map (λ part. part.items) c.put.new.parts.items)
    (g.met.C.Cut.within c.args.cut.now (g.K.Named.name item.key) c.args.shards c.requires.some)
    c.in_ok-put.ensures
    (subst (λ rest. PartsLeft owner c.args.shards c.args.items.items rest lists)
    c.in-Some.ensures.steps.0 c.loop-item.invariant)

pub returns : goal.returns
returns g c =
    let owner = owner_of (g.C.Cut.shard_of c.args.cut.now) g.K.Named.name c.args.shards in
    let left = c.loop-item.item-iterator in
    let nothing_left : into_iter_items left ≡ [] =
    nil_from_length (into_iter_items left) (sym left.rest.ok.0 ∙ c.in-None.ensures.steps.0) in
    parts_whole owner c.args.shards c.args.items.items
    (map (λ part. part.items) c.loop-item.parts.items)
    (subst (λ rest. PartsLeft owner c.args.shards c.args.items.items rest
    (map (λ part. part.items) c.loop-item.parts.items)) nothing_left c.loop-item.invariant)
