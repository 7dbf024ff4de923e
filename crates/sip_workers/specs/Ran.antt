-- The results of the pieces that were run.
use Rattle.std.specs.Prelude.{◌≡◌, ℕ, ◌<◌, List, length, map, slice_index}
use Rattle.std.specs.List.{AllZip}
use Rattle.std.specs.List.Sorted.{IsPermutation, IsStrictlyIncreasing}
use Rattle.sip_workers.specs.declared.piece.Piece.{Piece}

module _ {J D : Type 0} (gives : J → D → Type 0) where
  -- the done has the piece's shard number, and the piece's job may give it
  abbrev pub IsDoneOf : Piece J → ℕ × D → Type 0
  IsDoneOf piece done = (done.0 ≡ piece.shard) × gives piece.job done.1

  -- each piece, in order, made the done at its place
  abbrev pub Ran : List (Piece J) → List (ℕ × D) → Type 0
  Ran pieces dones = AllZip IsDoneOf pieces dones

  -- in some order, there is one done for each piece and no other
  abbrev pub AllRan : List (Piece J) → List (ℕ × D) → Type 0
  AllRan pieces dones = (order : List (Piece J)) × IsPermutation pieces order × Ran order dones

-- the dones in the order of their numbers, each once
abbrev pub IsGathered : {D : Type 0} → List (ℕ × D) → List D → Type 0
IsGathered {D} dones gathered =
    (sorted : List (ℕ × D)) × IsPermutation dones sorted
    × IsStrictlyIncreasing (map (λ d. d.0) sorted) × (gathered ≡ map (λ d. d.1) sorted)

-- the pieces are numbered from 0 on, in their order
abbrev pub IsNumbered : {J : Type 0} → List (Piece J) → Type 0
IsNumbered pieces = (k : ℕ) → k < length pieces → slice_index (map (λ p. p.shard) pieces) k ≡ k
