-- `empty_calls`: each turn of the loop adds one more shard that holds nothing and shares `calls`.
use Rattle.std.proofs.Common.{◌≡◌, [], Some, All, ap, arith, subst, sym}
use Rattle.sip_round.proofs.OneMore.{one_more}
use Rattle.sip_round.proofs.shards.empty_calls.Goals as goal

pub loop-preserved : goal.loop-preserved
loop-preserved c =
    let new = c.new.result in
    let made = c.loop.made.items in (
      omega (arith, c.in_ok-push.ensures.len, c.loop.invariant.0),
      subst (All (λ shard. shard.held ≡ Some [])) (sym c.in_ok-push.ensures.items)
          (one_more (λ shard. shard.held ≡ Some []) made new c.loop.invariant.1
          (ap (λ shard. shard.held) c.new.ensures)),
      subst (All (λ shard. shard.calls ≡ c.args.calls)) (sym c.in_ok-push.ensures.items)
          (one_more (λ shard. shard.calls ≡ c.args.calls) made new c.loop.invariant.2
          (ap (λ shard. shard.calls) c.new.ensures)),
    )
