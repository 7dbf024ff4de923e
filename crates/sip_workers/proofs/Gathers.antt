-- Dones in the order of their numbers.
use Rattle.std.proofs.Common.{◌≡◌, ℕ, zero, suc, ◌+◌, ◌-◌, ◌<◌, ◌≤◌, nat_eq, List, [], ◌∷◌, ◌++◌, length, map, get_or, slice_index, All, arith, sym, subst, ap, ◌∙◌, refl, add-one, inl, inr, length-append}
use Rattle.std.specs.List.{AllZip, IsDistinct}
use Rattle.std.specs.List.Sorted.{IsPermutation, IsStrictlyIncreasing, IsNonDecreasing, IsNonDecreasingBy}
use Rattle.std.specs.Cmp.{nat_eq_equiv}
use Rattle.std.proofs.lemmas.Bool.{ne_eqb, cases_lt}
use Rattle.std.proofs.lemmas.List.{get_or-map, get_or_default, get_or_append_left, get_or_push, map-append}
use Rattle.std.proofs.lemmas.List.Elements.{All-nil, All-cons, All-head, All-tail}
use Rattle.std.proofs.lemmas.List.Sorted.{IsPermutation-map, All-permutation, length_permutation}
use Rattle.std.proofs.lemmas.Map.Keys.{IsDistinct-IsPermutation, IsDistinct-from_apart, IsStrictlyIncreasing-from_distinct}
use Rattle.sip_workers.specs.declared.piece.Piece.{Piece}
use Rattle.sip_workers.specs.Ran.{Ran, AllRan, IsGathered, IsNumbered}

map_long : {X Y : Type 0} (f : X → Y) (xs : List X) → length (map f xs) ≡ length xs
map_long f [] = refl
map_long f (x ∷ xs) = ap suc (map_long f xs)

-- ---- numbers that rise

numbers_rise : {X : Type 0} (f : X → ℕ) (xs : List X) → IsNonDecreasingBy f xs
    → IsNonDecreasing (map f xs)
numbers_rise f [] up = λ i j d le below. absurd (omega arith)
numbers_rise {X} f (x ∷ xs) up = λ i j d le below.
    let inside : j < length (x ∷ xs) = omega (arith, map_long f (x ∷ xs)) in
    let a = get_or-map f (x ∷ xs) i x d (omega arith) in
    let b = get_or-map f (x ∷ xs) j x d inside in
    omega (arith, a, b, up i j x le inside)

-- dones with different numbers, sorted, rise
pub rising : {D : Type 0} (dones sorted : List (ℕ × D)) → IsPermutation dones sorted
    → IsDistinct nat_eq (map (λ d. d.0) dones) → IsNonDecreasingBy (λ d. d.0) sorted
    → IsStrictlyIncreasing (map (λ d. d.0) sorted)
rising {D} dones sorted same distinct up =
    let number : ℕ × D → ℕ = λ d. d.0 in
    IsStrictlyIncreasing-from_distinct (map number sorted) (numbers_rise number sorted up)
    (IsDistinct-IsPermutation nat_eq nat_eq_equiv.symm (map number dones) (map number sorted)
    (IsPermutation-map number dones sorted same) distinct)

least : (xs : List ℕ) → IsStrictlyIncreasing xs → (k : ℕ) → k < length xs → k ≤ slice_index xs k
least xs up zero below = omega arith
least xs up (suc k) below =
    omega (arith, least xs up k (omega arith), up k (omega arith), ap (slice_index xs) (add-one k))

most : (xs : List ℕ) (n : ℕ) → IsStrictlyIncreasing xs → length xs ≡ n → All (λ x. x < n) xs
    → (j k : ℕ) → k + j + 1 ≡ n → slice_index xs k ≤ k
most xs n up counted small zero k at = omega (arith, small k 0 (omega arith))
most xs n up counted small (suc j) k at =
    omega (arith, up k (omega arith), most xs n up counted small j (k + 1) (omega arith))

-- if n rising numbers are below n, each is its own place
places : (xs : List ℕ) (n : ℕ) → IsStrictlyIncreasing xs → length xs ≡ n → All (λ x. x < n) xs
    → (k : ℕ) → k < n → slice_index xs k ≡ k
places xs n up counted small k below =
    let low = least xs up k (omega arith) in
    let high = most xs n up counted small (n - k - 1) k (omega arith) in
    omega arith

-- ---- a done at the place of its piece

zip_by : {A B : Type 0} (R : A → B → Type 0) (xs : List A) (ys : List B) → length ys ≡ length xs
    → ((i : ℕ) (a : A) (b : B) → i < length xs → R (get_or xs i a) (get_or ys i b)) → AllZip R xs ys
zip_by R [] [] same each = tt
zip_by R [] (y ∷ ys) same each = absurd (omega arith)
zip_by R (x ∷ xs) [] same each = absurd (omega arith)
zip_by R (x ∷ xs) (y ∷ ys) same each = (
  each 0 x y (omega arith),
  zip_by R xs ys (omega arith)
      (λ i a b below. each (suc i) a b (omega arith)),
)

module _ {J D : Type 0} (gives : J → D → Type 0) (pieces : List (Piece J)) where
  -- the piece stands at the place of its number
  abbrev Stands : Piece J → Type 0
  Stands piece = (piece.shard < length pieces)
      × ((e : Piece J) → get_or pieces piece.shard e ≡ piece)

  -- the done is one of the piece at the place of its number
  abbrev Given : ℕ × D → Type 0
  Given done = (done.0 < length pieces)
      × ((e : Piece J) → gives (get_or pieces done.0 e).job done.1)

  all_stand : IsNumbered pieces → All Stands pieces
  all_stand numbered = λ k d below.
      let is : (get_or pieces k d).shard ≡ k =
      sym (get_or-map (λ p. p.shard) pieces k d 0 below) ∙ numbered k below in
      (omega (arith, is), λ e. ap (λ n. get_or pieces n e) is ∙ get_or_default pieces k e d below)

  all_given : (order : List (Piece J)) (dones : List (ℕ × D)) → Ran gives order dones
      → All Stands order → All Given dones
  all_given [] [] ran stand = All-nil Given
  all_given [] (d ∷ ds) ran stand = absurd ran
  all_given (o ∷ os) [] ran stand = absurd ran
  all_given (o ∷ os) (d ∷ ds) ran stand =
      let at = All-head Stands o os stand in
      All-cons Given d ds (
        omega (arith, at.0, ran.0.0),
        λ e. subst (λ (p : Piece J). gives p.job d.1)
            (sym (ap (λ n. get_or pieces n e) ran.0.0 ∙ at.1 e)) ran.0.1,
      )
      (all_given os ds ran.1 (All-tail Stands o os stand))

  all_small : (dones : List (ℕ × D)) → All Given dones
      → All (λ x. x < length pieces) (map (λ d. d.0) dones)
  all_small [] given = All-nil (λ x. x < length pieces)
  all_small (d ∷ ds) given = All-cons (λ x. x < length pieces) d.0 (map (λ d. d.0) ds)
      (All-head Given d ds given).0 (all_small ds (All-tail Given d ds given))

  zip_long : (order : List (Piece J)) (dones : List (ℕ × D)) → Ran gives order dones
      → length dones ≡ length order
  zip_long [] [] ran = refl
  zip_long [] (d ∷ ds) ran = absurd ran
  zip_long (o ∷ os) [] ran = absurd ran
  zip_long (o ∷ os) (d ∷ ds) ran = ap suc (zip_long os ds ran.1)

  numbers_of : (order : List (Piece J)) (dones : List (ℕ × D)) → Ran gives order dones
      → map (λ d. d.0) dones ≡ map (λ p. p.shard) order
  numbers_of [] [] ran = refl
  numbers_of [] (d ∷ ds) ran = absurd ran
  numbers_of (o ∷ os) [] ran = absurd ran
  numbers_of (o ∷ os) (d ∷ ds) ran =
      ap (λ n. n ∷ map (λ d. d.0) ds) ran.0.0 ∙ ap (λ ns. o.shard ∷ ns) (numbers_of os ds ran.1)

  -- the dones of pieces with different numbers have different numbers
  pub distinct_done : (dones : List (ℕ × D)) → AllRan gives pieces dones
      → IsDistinct nat_eq (map (λ p. p.shard) pieces) → IsDistinct nat_eq (map (λ d. d.0) dones)
  distinct_done dones (order, same, ran) distinct =
      subst (λ (ns : List ℕ). IsDistinct nat_eq ns) (sym (numbers_of order dones ran))
      (IsDistinct-IsPermutation nat_eq nat_eq_equiv.symm (map (λ p. p.shard) pieces)
      (map (λ p. p.shard) order) (IsPermutation-map (λ p. p.shard) pieces order same) distinct)

  pub in_order : (dones : List (ℕ × D)) (gathered : List D) → IsNumbered pieces
      → AllRan gives pieces dones → IsGathered dones gathered
      → AllZip (λ piece done. gives piece.job done) pieces gathered
  in_order dones gathered numbered (order, same, ran) (sorted, moved, up, is) =
      let number : ℕ × D → ℕ = λ d. d.0 in
      let made : ℕ × D → D = λ d. d.1 in
      let given : All Given sorted =
      All-permutation Given dones sorted moved
      (all_given order dones ran (All-permutation Stands pieces order same
      (all_stand numbered))) in
      let long : length sorted ≡ length pieces =
      length_permutation dones sorted moved ∙ zip_long order dones ran
      ∙ length_permutation pieces order same in
      let small : All (λ x. x < length pieces) (map number sorted) = all_small sorted given in
      subst (λ (ds : List D). AllZip (λ piece done. gives piece.job done) pieces ds) (sym is)
      (zip_by (λ piece done. gives piece.job done) pieces (map made sorted)
      (map_long made sorted ∙ long)
      (λ i a b below.
      let s = get_or sorted i (0, b) in
      let g = given i (0, b) (omega arith) in
      let at : s.0 ≡ i = sym (get_or-map number sorted i (0, b) 0 (omega arith))
      ∙ places (map number sorted) (length pieces) up
      (map_long number sorted ∙ long) small i below in
      let here : get_or (map made sorted) i b ≡ s.1 =
      get_or-map made sorted i (0, b) b (omega arith) in
      rw here (subst (λ (n : ℕ). gives (get_or pieces n a).job s.1) at (g.1 a))))

-- numbered pieces have different numbers
pub distinct_numbered : {J : Type 0} (pieces : List (Piece J)) → IsNumbered pieces
    → IsDistinct nat_eq (map (λ p. p.shard) pieces)
distinct_numbered {J} pieces numbered =
    let shard : Piece J → ℕ = λ p. p.shard in
    IsDistinct-from_apart nat_eq (map shard pieces) (λ i j d before below.
    let long = map_long shard pieces in
    let a = get_or_default (map shard pieces) i d 0 (omega arith) in
    let b = get_or_default (map shard pieces) j d 0 below in
    ne_eqb (get_or (map shard pieces) i d) (get_or (map shard pieces) j d)
    (λ same. absurd (omega (arith, numbered i (omega arith), numbered j (omega arith)))))

-- one more piece
pub numbered_more : {J : Type 0} (pieces : List (Piece J)) (piece : Piece J) → IsNumbered pieces
    → piece.shard ≡ length pieces → IsNumbered (pieces ++ piece ∷ [])
numbered_more {J} pieces piece numbered next = λ k below.
    let shard : Piece J → ℕ = λ p. p.shard in
    let long = map_long shard pieces in
    let grown = length-append pieces (piece ∷ []) in
    ap (λ ns. slice_index ns k) (map-append shard pieces (piece ∷ []))
    ∙ elim (cases_lt k (length pieces)) as (λ _.
    slice_index (map shard pieces ++ piece.shard ∷ []) k ≡ k) [
      | inl within ↦ get_or_append_left (map shard pieces) (piece.shard ∷ []) 0 k (omega arith)
          ∙ numbered k within
      | inr past ↦ get_or_push (map shard pieces) piece.shard 0 k (omega arith)
          ∙ omega (arith, next)
    ]

-- the same in a loop
pub numbered_grown : {J : Type 0} (pieces more : List (Piece J)) (piece : Piece J) (k next : ℕ)
    → more ≡ pieces ++ piece ∷ [] → (length pieces ≡ k) × IsNumbered pieces
    → (piece.shard ≡ k) × (next ≡ k + 1) → (length more ≡ next) × IsNumbered more
numbered_grown {J} pieces more piece k next pushed so_far at = (
  ap (λ (ps : List (Piece J)). length ps) pushed
      ∙ omega (arith, length-append pieces (piece ∷ []), so_far.0, at.1),
  subst (λ (ps : List (Piece J)). IsNumbered ps) (sym pushed)
      (numbered_more pieces piece so_far.1 (at.0 ∙ sym so_far.0)),
)
