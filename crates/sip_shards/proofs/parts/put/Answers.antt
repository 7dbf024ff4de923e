-- `put` adds the item at the end of its owner's part.
use Rattle.std.proofs.Common.{◌≡◌, ◌<◌, [], ◌∷◌, ◌++◌, map, sym, ◌∙◌, ap, arith, length, slice_set}
use Rattle.std.specs.Prelude.{get_or}
use Rattle.std.proofs.lemmas.List.{map-set, get_or-map}
use Rattle.sip_shards.specs.Parts.{owner_of}
use Rattle.sip_shards.proofs.parts.put.Goals as goal

pub returns : goal.returns
returns g c =
    let shard_of = g.C.Cut.shard_of c.args.cut.now in
    let owner = owner_of shard_of g.K.Named.name c.args.shards in
    let item = c.args.item in
    let parts = c.args.parts.now.items in
    let lists = map (λ part. part.items) parts in
    let shard = c.owner-shard.result in
    let owned : shard ≡ owner item.key = c.owner-shard.ensures in
    let within : owner item.key < c.args.shards =
    g.met.C.Cut.within c.args.cut.now (g.K.Named.name item.key) c.args.shards c.requires.some in
    let inside : shard < length parts =
    omega (arith, owned, within, c.requires.count, c.args.parts.now.ok) in
    let was : c.index_mut.result.now.items ≡ get_or lists shard [] =
    ap (λ part. part.items) c.index_mut.ensures.value
    ∙ sym (get_or-map (λ part. part.items) parts shard c.index_mut.result.now [] inside) in
    let newer : c.push.new.self.items ≡ get_or lists shard [] ++ item ∷ [] =
    c.in_ok-push.ensures.items ∙ ap (λ items. items ++ item ∷ []) was in
    map-set (λ part. part.items) parts shard c.push.new.self
    ∙ ap (slice_set lists shard) newer
    ∙ ap (λ n. slice_set lists n (get_or lists n [] ++ item ∷ [])) owned
