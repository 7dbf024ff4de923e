-- `empty_transactions`: each turn of the loop adds one more shard that holds nothing.
use Rattle.std.proofs.Common.{◌≡◌, [], Some, All, ap, arith, subst, sym}
use Rattle.sip_round.proofs.OneMore.{one_more}
use Rattle.sip_round.proofs.shards.empty_transactions.Goals as goal

pub loop-preserved : goal.loop-preserved
loop-preserved c = (
  omega (arith, c.in_ok-push.ensures.len, c.loop.invariant.0),
  subst (All (λ shard. shard.held ≡ Some [])) (sym c.in_ok-push.ensures.items)
      (one_more (λ shard. shard.held ≡ Some []) c.loop.made.items c.with_hash_seed.result
      c.loop.invariant.1 (ap (λ shard. shard.held) c.with_hash_seed.ensures)),
)
