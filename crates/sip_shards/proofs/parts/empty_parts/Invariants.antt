-- The loop of `empty_parts`: there are as many parts as turns so far, and all are empty.
use Rattle.std.proofs.Common.{◌≡◌, [], vec_len, All}
use Rattle.sip_shards.proofs.parts.empty_parts.Given as goal

abbrev pub invariant-loop : goal.invariant-loop
invariant-loop g l = (vec_len l.parts ≡ l.counter) × All (λ part. part.items ≡ []) l.parts.items
