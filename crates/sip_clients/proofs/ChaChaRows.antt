-- A state of ChaCha as four rows of four words.
use Rattle.std.proofs.Common.{◌≡◌, ℕ, ◌<◌, ◌≤◌, ◌-◌, ◌/◌, ◌%◌, ◌^◌, List, [], ◌∷◌, ◌++◌, length, slice_index, arith, refl, sym, ap, ap₂, ◌∙◌}
use Rattle.std.proofs.Math.ListN.{get_or-append}
use Rattle.std.proofs.lemmas.List.{get_or-append_right}
use Rattle.rand_chacha.specs.Block.{add32, quarter_round, column_round, diagonal_round, initial_state}
use Rattle.rand_chacha.specs.ChaCha.{key_of}
use Rattle.rand_core.specs.Steps.{u32_at}

-- a list of four words
pub data IsRow : List ℕ → Type 0 where
  row : (x0 x1 x2 x3 : ℕ) → IsRow (x0 ∷ x1 ∷ x2 ∷ x3 ∷ [])

pub is_row : (xs : List ℕ) → length xs ≡ 4 → IsRow xs
is_row (a ∷ b ∷ c ∷ d ∷ []) h = row a b c d
is_row [] h = absurd (omega arith)
is_row (a ∷ []) h = absurd (omega arith)
is_row (a ∷ b ∷ []) h = absurd (omega arith)
is_row (a ∷ b ∷ c ∷ []) h = absurd (omega arith)
is_row (a ∷ b ∷ c ∷ d ∷ e ∷ xs) h = absurd (omega arith)

-- the results of quarter rounds in the four lanes
abbrev pub InLanes : (a b c d p q r s : List ℕ) → Type 0
InLanes a b c d p q r s = (lane : ℕ) → lane < 4
    → (slice_index p lane, slice_index q lane, slice_index r lane, slice_index s lane)
    ≡ quarter_round (slice_index a lane) (slice_index b lane) (slice_index c lane)
    (slice_index d lane)

-- a row that begins with its second, its third or its last word
abbrev pub from_second : List ℕ → List ℕ
from_second x = slice_index (x ++ x) 1 ∷ slice_index (x ++ x) 2
    ∷ slice_index (x ++ x) 3 ∷ slice_index (x ++ x) 0 ∷ []

abbrev pub from_third : List ℕ → List ℕ
from_third x = slice_index (x ++ x) 2 ∷ slice_index (x ++ x) 3
    ∷ slice_index (x ++ x) 0 ∷ slice_index (x ++ x) 1 ∷ []

abbrev pub from_last : List ℕ → List ℕ
from_last x = slice_index (x ++ x) 3 ∷ slice_index (x ++ x) 0
    ∷ slice_index (x ++ x) 1 ∷ slice_index (x ++ x) 2 ∷ []

-- each column
pub columns : (a b c d p q r s : List ℕ) → IsRow a → IsRow b → IsRow c → IsRow d
    → IsRow p → IsRow q → IsRow r → IsRow s → InLanes a b c d p q r s
    → p ++ (q ++ (r ++ s)) ≡ column_round (a ++ (b ++ (c ++ d)))
unfolding column_round
columns a b c d p q r s (row a0 a1 a2 a3) (row b0 b1 b2 b3) (row c0 c1 c2 c3) (row d0 d1 d2 d3)
    (row p0 p1 p2 p3) (row q0 q1 q2 q3) (row r0 r1 r2 r3) (row s0 s1 s2 s3) made =
    rw (
      ← made 0 (omega arith),
      ← made 1 (omega arith),
      ← made 2 (omega arith),
      ← made 3 (omega arith),
    ) refl

-- each diagonal, after its words were moved into one lane
pub diagonals : (a b c d p q r s : List ℕ) → IsRow a → IsRow b → IsRow c → IsRow d
    → IsRow p → IsRow q → IsRow r → IsRow s
    → InLanes a (from_second b) (from_third c) (from_last d) p q r s
    → p ++ (from_last q ++ (from_third r ++ from_second s))
    ≡ diagonal_round (a ++ (b ++ (c ++ d)))
unfolding diagonal_round
diagonals a b c d p q r s (row a0 a1 a2 a3) (row b0 b1 b2 b3) (row c0 c1 c2 c3) (row d0 d1 d2 d3)
    (row p0 p1 p2 p3) (row q0 q1 q2 q3) (row r0 r1 r2 r3) (row s0 s1 s2 s3) made =
    rw (
      ← made 0 (omega arith),
      ← made 1 (omega arith),
      ← made 2 (omega arith),
      ← made 3 (omega arith),
    ) refl

-- a word of the first row, and of a later one
pub in_first : (a rest : List ℕ) (k : ℕ) → length a ≡ 4 → k < 4
    → slice_index (a ++ rest) k ≡ slice_index a k
in_first a rest k long below = get_or-append a rest 0 k (omega arith)

pub in_later : (a rest : List ℕ) (k : ℕ) → length a ≡ 4 → 4 ≤ k
    → slice_index (a ++ rest) k ≡ slice_index rest (k - 4)
in_later a rest k long past = get_or-append_right a rest 4 k 0 long past

-- the words of a sum, row by row
module _ (p q r s a b c d : List ℕ) (p4 : length p ≡ 4) (q4 : length q ≡ 4) (r4 : length r ≡ 4)
    (a4 : length a ≡ 4) (b4 : length b ≡ 4) (c4 : length c ≡ 4) (k : ℕ) where
  abbrev pub Sums : ℕ → Type 0
  Sums sum = sum ≡ add32 (slice_index (p ++ (q ++ (r ++ s))) k)
      (slice_index (a ++ (b ++ (c ++ d))) k)

  pub sum_in_first : k < 4 → Sums (add32 (slice_index p k) (slice_index a k))
  sum_in_first below = ap₂ add32 (sym (in_first p (q ++ (r ++ s)) k p4 below))
      (sym (in_first a (b ++ (c ++ d)) k a4 below))

  pub sum_in_second : 4 ≤ k → k < 8 → Sums (add32 (slice_index q (k - 4)) (slice_index b (k - 4)))
  sum_in_second past below = ap₂ add32
      (sym (in_later p (q ++ (r ++ s)) k p4 past ∙ in_first q (r ++ s) (k - 4) q4 (omega arith)))
      (sym (in_later a (b ++ (c ++ d)) k a4 past ∙ in_first b (c ++ d) (k - 4) b4 (omega arith)))

  pub sum_in_third : 8 ≤ k → k < 12
      → Sums (add32 (slice_index r (k - 8)) (slice_index c (k - 8)))
  sum_in_third past below =
      let e : k - 4 - 4 ≡ k - 8 = omega arith in
      ap₂ add32
      (sym (in_later p (q ++ (r ++ s)) k p4 (omega arith)
      ∙ in_later q (r ++ s) (k - 4) q4 (omega arith)
      ∙ in_first r s (k - 4 - 4) r4 (omega arith) ∙ ap (slice_index r) e))
      (sym (in_later a (b ++ (c ++ d)) k a4 (omega arith)
      ∙ in_later b (c ++ d) (k - 4) b4 (omega arith)
      ∙ in_first c d (k - 4 - 4) c4 (omega arith) ∙ ap (slice_index c) e))

  pub sum_in_last : 12 ≤ k → Sums (add32 (slice_index s (k - 12)) (slice_index d (k - 12)))
  sum_in_last past =
      let e : k - 4 - 4 - 4 ≡ k - 12 = omega arith in
      ap₂ add32
      (sym (in_later p (q ++ (r ++ s)) k p4 (omega arith)
      ∙ in_later q (r ++ s) (k - 4) q4 (omega arith)
      ∙ in_later r s (k - 4 - 4) r4 (omega arith) ∙ ap (slice_index s) e))
      (sym (in_later a (b ++ (c ++ d)) k a4 (omega arith)
      ∙ in_later b (c ++ d) (k - 4) b4 (omega arith)
      ∙ in_later c d (k - 4 - 4) c4 (omega arith) ∙ ap (slice_index d) e))

-- the state that a block begins with, word by word
pub first_state : {k0 k1 k2 k3 k4 k5 k6 k7 b0 b1 s0 s1 : ℕ} → (seed : List ℕ) (block stream : ℕ)
    → k0 ≡ u32_at seed 0 → k1 ≡ u32_at seed 1 → k2 ≡ u32_at seed 2 → k3 ≡ u32_at seed 3
    → k4 ≡ u32_at seed 4 → k5 ≡ u32_at seed 5 → k6 ≡ u32_at seed 6 → k7 ≡ u32_at seed 7
    → b0 ≡ block % 2 ^ 32 → b1 ≡ block / 2 ^ 32
    → s0 ≡ stream % 2 ^ 32 → s1 ≡ stream / 2 ^ 32
    → 0x61707865 ∷ 0x3320646e ∷ 0x79622d32 ∷ 0x6b206574 ∷ k0 ∷ k1 ∷ k2 ∷ k3 ∷ k4 ∷ k5 ∷ k6 ∷ k7
    ∷ b0 ∷ b1 ∷ s0 ∷ s1 ∷ [] ≡ initial_state (key_of seed) block stream
first_state seed block stream e0 e1 e2 e3 e4 e5 e6 e7 f0 f1 g0 g1 =
    rw (e0, e1, e2, e3, e4, e5, e6, e7, f0, f1, g0, g1) refl
