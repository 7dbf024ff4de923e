-- What a `SeededHasher` computes: the fold of std's `FoldHasher`, with a secret word in place of
-- its constant.
use Rattle.std.specs.Prelude.{ℕ, zero, suc, ◌+◌, ◌-◌, ◌*◌, ◌/◌, ◌%◌, ◌^◌, List, length, if◌then◌else◌, nat_le, bit_xor}
unfoldable pub use Rattle.std.specs.Hash.FoldHasher.{folded_multiply, read_short, read_u32, read_u64}
use Rattle.seeded_hash.specs.declared.seeded_hasher.SeededHasher.{SeededHasher}

-- the state after the words of eight bytes at two places
abbrev pub mix : ℕ → List ℕ → ℕ → ℕ → ℕ → ℕ
mix factor bytes state one other = folded_multiply
    (bit_xor (read_u64 bytes one) state) (bit_xor (read_u64 bytes other) factor)

-- the state after the first blocks of 16 bytes, as many as this number
unfoldable pub mix_blocks : ℕ → List ℕ → ℕ → ℕ → ℕ
mix_blocks factor bytes state zero = state
mix_blocks factor bytes state (suc n) =
    mix factor bytes (mix_blocks factor bytes state n) (16 * n) (16 * n + 8)

-- The hasher after a text was written. The last block of a long text is its last 16 bytes, also
-- where it overlaps the one before.
unfoldable pub write : SeededHasher → List ℕ → SeededHasher
write hasher bytes =
    let n = length bytes in
    let short = folded_multiply (bit_xor hasher.state (read_short bytes))
    (bit_xor hasher.factor (2 * n)) in
    let blocks = mix_blocks hasher.factor bytes ((hasher.state + n) % 2 ^ 64) ((n - 1) / 16) in
    let long = mix hasher.factor bytes blocks (n - 16) (n - 8) in
    record hasher { state = if nat_le n 8 then short else long }

abbrev pub finish : SeededHasher → ℕ
finish hasher = hasher.state
