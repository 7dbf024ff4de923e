-- The loop of `empty_calls`: as many shards as turns so far, which hold nothing and share `calls`.
use Rattle.std.proofs.Common.{◌≡◌, Some, [], vec_len, All}
use Rattle.sip_round.proofs.shards.empty_calls.Given as goal

abbrev pub invariant-loop : goal.invariant-loop
invariant-loop l = (vec_len l.made ≡ l.counter) × All (λ shard. shard.held ≡ Some []) l.made.items
    × All (λ shard. shard.calls ≡ l.calls) l.made.items
