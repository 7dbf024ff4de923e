-- The seed of a map's hashes, made of a secret.
use Rattle.std.specs.Prelude.{ℕ, List, [], ◌∷◌, replicate}
use Rattle.std.specs.Hash.FoldHasher as folding
use Rattle.seeded_hash.specs.declared.hash_seed.HashSeed.{HashSeed}

-- the hash of an index and a secret, by the hasher of std that everyone knows
abbrev pub word_of : List ℕ → ℕ → ℕ
word_of secret index =
    folding.finish (folding.write (folding.write folding.initial (index ∷ [])) secret)

-- the seed of a secret: two words of it
abbrev pub seed_of : List ℕ → HashSeed
seed_of secret =
    record { initial = record { state = word_of secret 0; factor = word_of secret 1 } }

-- the seed of the secret of 32 zeros, which is none
abbrev pub known_seed : HashSeed
known_seed = seed_of (replicate 32 0)
