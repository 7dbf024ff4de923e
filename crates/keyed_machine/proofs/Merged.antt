-- Groups whose labels differ have one order by their labels.
use Rattle.std.proofs.Common.{◌≡◌, ◌+◌, ◌<◌, Bool, List, [], ◌∷◌, length, map, get_or, sym, ◌∙◌, ap, subst, arith, Bor}
use Rattle.std.specs.List.{AllByRecursion}
use Rattle.std.specs.List.Sorted.{IsPermutation, IsSorted, IsSortedBy, IsStrictlySortedBy}
use Rattle.std.specs.Fn.{Called, Mut, ComparesAs, ReturnsEach}
use Rattle.std.specs.Cmp.{IsTotalOrder, on_total}
use Rattle.std.specs.Ordering.{is_lt}
use Rattle.std.specs.declared.cmp.Ordering.{Ordering}
use Rattle.std.specs.declared.cmp.Ordering.TheVariants.{Less}
use Rattle.std.specs.declared.vec.Vec.{Vec}
use Rattle.std.proofs.lemmas.List.{get_or-map, length-map}
use Rattle.std.proofs.lemmas.List.Sorted.{IsPermutation-sym, IsPermutation-map}
use Rattle.sip_timers.proofs.Sorts.{same_sorted}
use Rattle.keyed_machine.specs.Groups.{groups}

-- a closure without a state that compares by the test at each call
pub compares : {F X : Type 0} (g : Mut F (Bor X × (Bor X × Unit {0})) Ordering) (lt : X → X → Bool)
    (f : F)
    → ((a : Bor X × (Bor X × Unit {0})) (r : Ordering) (after : F) → Called g f a r after
    → (is_lt r ≡ lt a.0.now a.1.0.now) × (after ≡ f)) → ComparesAs g lt f
compares {F} {X} g lt f fact = record { at = each } where
  each : (calls : List (Bor X × (Bor X × Unit {0})))
      → ReturnsEach g (λ a r. is_lt r ≡ lt a.0.now a.1.0.now) f calls
  each [] = tt
  each (a ∷ calls) = λ r after called. (
    (fact a r after called).0,
    subst
        (λ then'. ReturnsEach g (λ a r. is_lt r ≡ lt a.0.now a.1.0.now) then' calls)
        (sym (fact a r after called).1) (each calls),
  )

module _ {L O : Type 0} (cmp : L → L → Ordering) where
  all_above : (label : L) (all : List (L × List O))
      → AllByRecursion (λ y. cmp label y ≡ Less) (map (λ group. group.0) all)
      → AllByRecursion (λ (group : L × List O). cmp label group.0 ≡ Less) all
  all_above label [] above = tt
  all_above label (group ∷ all) above = (above.0, all_above label all above.1)

  rising : (all : List (L × List O)) → IsStrictlySortedBy cmp (map (λ group. group.0) all)
      → IsStrictlySortedBy (λ (a b : L × List O). cmp a.0 b.0) all
  unfolding IsStrictlySortedBy
  rising [] rises = tt
  rising (group ∷ all) rises = (all_above group.0 all rises.0, rising all rises.1)

module _ {L O Z : Type 0} (cmp : L → L → Ordering) where
  sorted_groups : (told : List (L × Vec O Z))
      → IsSortedBy (λ (a b : L × Vec O Z). is_lt (cmp a.0 b.0)) told
      → IsSorted (λ (a b : L × List O). cmp a.0 b.0) (groups told)
  sorted_groups [] sorted = λ k d low below. absurd (omega arith)
  sorted_groups (group ∷ told) sorted = λ k d low below.
      let plain : L × Vec O Z → L × List O = λ g. (g.0, g.1.items) in
      let within : k + 1 < length (group ∷ told) =
      omega (arith, below, length-map (group ∷ told) plain) in
      let before : k < length (group ∷ told) = omega arith in
      let later : get_or (groups (group ∷ told)) (k + 1) d
      ≡ plain (get_or (group ∷ told) (k + 1) group) =
      get_or-map plain (group ∷ told) (k + 1) group d within in
      let first : get_or (groups (group ∷ told)) k d ≡ plain (get_or (group ∷ told) k group) =
      get_or-map plain (group ∷ told) k group d before in
      ap (λ g. is_lt (cmp g.0 (get_or (groups (group ∷ told)) k d).0)) later
      ∙ ap (λ g. is_lt (cmp (get_or (group ∷ told) (k + 1) group).0 g.0)) first
      ∙ sorted k group low within

pub merged : {L O Z : Type 0} {cmp : L → L → Ordering} → IsTotalOrder cmp
    → (told sorted : List (L × Vec O Z)) (all : List (L × List O))
    → IsSortedBy (λ (a b : L × Vec O Z). is_lt (cmp a.0 b.0)) sorted → IsPermutation told sorted
    → IsStrictlySortedBy cmp (map (λ group. group.0) all) → IsPermutation (groups told) all
    → groups sorted ≡ all
merged {L} {O} {Z} {cmp} total told sorted all in_order moved rises same =
    same_sorted (on_total (λ (group : L × List O). group.0) total) all (groups told) (groups sorted)
    (rising cmp all rises) (IsPermutation-sym (groups told) all same)
    (IsPermutation-map (λ g. (g.0, g.1.items)) told sorted moved)
    (sorted_groups cmp sorted in_order)
