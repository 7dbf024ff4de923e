-- Sorting distinct keys gives the one list in which they rise.
use Rattle.std.proofs.Common.{◌≡◌, ◌+◌, ◌≤◌, ◌<◌, false, List, [], ◌∷◌, ◌⊎◌, inl, inr, refl, sym, ap, subst, ◌∙◌, arith, get_or}
use Rattle.std.specs.List.{AllByRecursion, IsDistinct}
use Rattle.std.specs.List.Sorted.{IsPermutation, IsSorted, IsStrictlySortedBy}
use Rattle.std.specs.Ordering.{is_eq, is_lt, eq_by_cmp, ordering_reverse}
use Rattle.std.specs.Cmp.{IsTotalOrder, eq_by_cmp_equiv}
use Rattle.std.specs.declared.cmp.Ordering.{Ordering}
use Rattle.std.specs.declared.cmp.Ordering.TheVariants.{Less, Equal}
use Rattle.std.proofs.lemmas.Bool.{false≢true}
use Rattle.std.proofs.lemmas.Cmp.{tied_itself}
use Rattle.std.proofs.lemmas.List.Elements.{All-from_recursion, recursion_from_All}
use Rattle.std.proofs.lemmas.List.Sorted.{IsPermutation-sym, IsPermutation-trans, All-permutation}
use Rattle.std.proofs.lemmas.Map.Keys.{sorted_head, sorted_tail, sorted_from_all_adjacent, apart_from_distinct, IsDistinct-from_sorted, IsDistinct-IsPermutation}
use Rattle.sip_timers.proofs.Dues.{by_ordering}

-- the element is one of the list
abbrev Among : {X : Type 0} → X → List X → Type 0
Among x [] = ⊥
Among x (y ∷ ys) = (x ≡ y) ⊎ Among x ys

at_among : {X : Type 0} (P : X → Type 0) (xs : List X) (x : X) → AllByRecursion P xs → Among x xs
    → P x
at_among P [] x every among = absurd among
at_among P (y ∷ ys) x every among =
    elim among as (λ _. P x) [
      | inl same ↦ subst P
          (sym same) every.0
      | inr further ↦ at_among P ys x every.1 further
    ]

pub weaker : {X : Type 0} {P Q : X → Type 0} → ((x : X) → P x → Q x) → (xs : List X)
    → AllByRecursion P xs → AllByRecursion Q xs
weaker f [] every = tt
weaker f (x ∷ xs) every = (f x every.0, weaker f xs every.1)

all_among : {X : Type 0} (xs : List X) → AllByRecursion (λ x. Among x xs) xs
all_among [] = tt
all_among {X} (x ∷ xs) = (inl refl, weaker (λ y there. inr there) xs (all_among xs))

module _ {K : Type 0} {cmp : K → K → Ordering} (total : IsTotalOrder cmp) where
  less_itself : (x : K) → cmp x x ≡ Less → ⊥
  less_itself x less = let equal : cmp x x ≡ Equal = tied_itself total x in cc

  less_both : (x y : K) → cmp x y ≡ Less → cmp y x ≡ Less → ⊥
  less_both x y less again = less_itself x (total.trans x y x less again)

  -- the tail of a rising list has elements of the other list's tail
  tail_among : (x : K) (xs ys : List K) → AllByRecursion (λ z. cmp x z ≡ Less) ys
      → AllByRecursion (λ z. Among z (x ∷ xs)) ys → AllByRecursion (λ z. Among z xs) ys
  tail_among x xs [] above among = tt
  tail_among x xs (y ∷ ys) above among = (
    elim (among.0) as (λ _. Among y xs) [
      | inl same ↦ absurd (less_itself x (subst (λ z. cmp x z ≡ Less) same above.0))
      | inr there ↦ there
    ],
    tail_among x xs ys above.1 among.1,
  )

  -- two rising lists with the same elements are equal
  same_elements : (xs ys : List K) → IsStrictlySortedBy cmp xs → IsStrictlySortedBy cmp ys
      → AllByRecursion (λ y. Among y xs) ys → AllByRecursion (λ x. Among x ys) xs → ys ≡ xs
  same_elements [] [] rises rise_too all_ys all_xs = refl
  same_elements [] (y ∷ ys) rises rise_too all_ys all_xs = absurd all_ys.0
  same_elements (x ∷ xs) [] rises rise_too all_ys all_xs = absurd all_xs.0
  same_elements (x ∷ xs) (y ∷ ys) rises rise_too all_ys all_xs =
      let above_x : AllByRecursion (λ z. cmp x z ≡ Less) xs = sorted_head cmp x xs rises in
      let above_y : AllByRecursion (λ z. cmp y z ≡ Less) ys = sorted_head cmp y ys rise_too in
      let first : y ≡ x = elim (all_ys.0) as (λ _. y ≡ x) [
        | inl same ↦ same
        | inr y_later ↦ elim (all_xs.0) as (λ _. y ≡ x) [
          | inl same ↦ sym same
          | inr x_later ↦ absurd (less_both x y
              (at_among (λ z. cmp x z ≡ Less) xs y above_x y_later)
              (at_among (λ z. cmp y z ≡ Less) ys x above_y x_later))
        ]
      ] in
      let ys_in : AllByRecursion (λ z. Among z xs) ys =
      tail_among x xs ys (subst (λ w. AllByRecursion (λ z. cmp w z ≡ Less) ys) first above_y)
      all_ys.1 in
      let xs_in : AllByRecursion (λ z. Among z ys) xs =
      tail_among y ys xs (subst (λ w. AllByRecursion (λ z. cmp w z ≡ Less) xs)
      (sym first) above_x) all_xs.1 in
      ap (λ z. z ∷ ys) first ∙ ap (λ rest. x ∷ rest)
      (same_elements xs ys (sorted_tail cmp x xs rises)
      (sorted_tail cmp y ys rise_too) ys_in xs_in)

  -- distinct keys, sorted, rise
  pub rises_if_distinct : (xs ys : List K) → IsDistinct (eq_by_cmp cmp) xs → IsPermutation xs ys
      → IsSorted cmp ys → IsStrictlySortedBy cmp ys
  unfolding IsStrictlySortedBy
  rises_if_distinct xs [] apart_before same sorted = tt
  rises_if_distinct xs (y ∷ ys) apart_before same sorted =
      let differ : IsDistinct (eq_by_cmp cmp) (y ∷ ys) =
      IsDistinct-IsPermutation (eq_by_cmp cmp) (eq_by_cmp_equiv total).symm xs (y ∷ ys) same
      apart_before in
      sorted_from_all_adjacent total (y ∷ ys) y (λ k below.
      let a : K = get_or (y ∷ ys) k y in
      let b : K = get_or (y ∷ ys) (k + 1) y in
      let next : k < k + 1 = omega arith in
      let low : 0 ≤ k = omega arith in
      let apart : is_eq (cmp a b) ≡ false =
      apart_from_distinct (eq_by_cmp cmp) (y ∷ ys) k (k + 1) y differ next below in
      let not_below : is_lt (cmp b a) ≡ false = sorted k y low below in
      by_ordering (cmp a b)
      (λ less. less)
      (λ equal. absurd (false≢true (sym apart ∙ ap is_eq equal)))
      (λ greater. absurd (false≢true
      (sym not_below ∙ ap is_lt (total.antisymm b a ∙ ap ordering_reverse greater)))))

  -- so the result is any rising list with the same elements
  pub same_sorted : (all keys sorted : List K) → IsStrictlySortedBy cmp all → IsPermutation all keys
      → IsPermutation keys sorted → IsSorted cmp sorted → sorted ≡ all
  same_sorted all keys sorted rises taken ordered is_sorted =
      let same : IsPermutation all sorted = IsPermutation-trans all keys sorted taken ordered in
      let ys_in : AllByRecursion (λ z. Among z all) sorted =
      recursion_from_All (λ z. Among z all) sorted
      (All-permutation (λ z. Among z all) all sorted same
      (All-from_recursion (λ z. Among z all) all (all_among all))) in
      let xs_in : AllByRecursion (λ z. Among z sorted) all =
      recursion_from_All (λ z. Among z sorted) all
      (All-permutation (λ z. Among z sorted) sorted all (IsPermutation-sym all sorted same)
      (All-from_recursion (λ z. Among z sorted) sorted (all_among sorted))) in
      same_elements all sorted rises (rises_if_distinct all sorted
      (IsDistinct-from_sorted cmp all rises) same is_sorted) ys_in xs_in
