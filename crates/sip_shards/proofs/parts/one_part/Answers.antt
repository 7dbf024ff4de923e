-- `one_part`: a single shard has all items.
use Rattle.std.proofs.Common.{[], ◌∷◌, sym, ap}
use Rattle.sip_shards.proofs.Cutting.{all_in_one}
use Rattle.sip_shards.proofs.parts.one_part.Goals as goal

pub returns : goal.returns
returns g c = λ owner one.
    rw (c.in_ok-push.ensures.items, c.in_ok-parts.ensures.items)
    (ap (λ part. part ∷ []) (sym (all_in_one owner c.args.items.items one)))
