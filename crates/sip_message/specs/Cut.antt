-- How names are cut among shards.
use Rattle.std.specs.Prelude.{ℕ, ◌%◌, ◌<◌, List, sum}
use Rattle.std.proofs.Math.Nat.{mod-lt}

-- the sum of the bytes, modulo the number of shards
abbrev pub spread_shard : List ℕ → ℕ → ℕ
spread_shard name shards = sum name % shards

-- a remainder is below the divisor
pub spread_within : (name : List ℕ) (shards : ℕ) → 0 < shards → spread_shard name shards < shards
spread_within name shards some = mod-lt (sum name) some
