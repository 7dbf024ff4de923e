-- What is true of each element of a list, or of the value of each entry, stays true after a change.
use Rattle.std.proofs.Common.{◌≡◌, Bool, true, false, cond, List, [], ◌∷◌, ◌++◌, map, subst}
use Rattle.std.specs.Prelude.{Option, None, Some, IfSome, filter, find}
use Rattle.std.specs.List.{AllByRecursion, flat_map}
use Rattle.std.specs.Map.{lookup, remove_entry, set_value, values_of}
use Rattle.std.specs.Option.{option_map_or}
use Rattle.indexmap.specs.IndexMap.{insert_entry}

-- ---- elements

module _ {X : Type 0} (P : X → Type 0) where
  pub both : (xs ys : List X) → AllByRecursion P xs → AllByRecursion P ys
      → AllByRecursion P (xs ++ ys)
  both [] ys first second = second
  both (x ∷ xs) ys first second = (first.0, both xs ys first.1 second)

  pub filtered : (test : X → Bool) (xs : List X) → AllByRecursion P xs
      → AllByRecursion P (filter test xs)
  filtered test [] all = tt
  filtered test (x ∷ xs) all =
      elim (test x) as (λ b. AllByRecursion P (cond b (x ∷ filter test xs) (filter test xs))) [
        | true ↦ (all.0, filtered test xs all.1)
        | false ↦ filtered test xs all.1
      ]

  pub all_of_each : {A : Type 0} (f : A → List X) → ((a : A) → AllByRecursion P (f a))
      → (xs : List A) → AllByRecursion P (flat_map f xs)
  all_of_each f each [] = tt
  all_of_each f each (a ∷ xs) = both (f a) (flat_map f xs) (each a) (all_of_each f each xs)

  found_step : (b : Bool) (x : X) (found : Option X) → P x → IfSome found P
      → IfSome (cond b (Some x) found) P
  found_step true x found here later = here
  found_step false x found here later = later

  -- what is found
  first_one : (test : X → Bool) (xs : List X) → AllByRecursion P xs → IfSome (find test xs) P
  first_one test [] all = tt
  first_one test (x ∷ xs) all =
      found_step (test x) x (find test xs) all.0 (first_one test xs all.1)

  pub found : (test : X → Bool) (xs : List X) (y : X) → AllByRecursion P xs
      → find test xs ≡ Some y → P y
  found test xs y all is = subst (λ o. IfSome o P) is (first_one test xs all)

-- if P of an element gives Q of what it maps to, then P of all elements gives Q of all results
module _ {X Y : Type 0} (P : X → Type 0) (Q : Y → Type 0) where
  pub mapped : (f : X → Y) → ((x : X) → P x → Q (f x)) → (xs : List X) → AllByRecursion P xs
      → AllByRecursion Q (map f xs)
  mapped f gives [] all = tt
  mapped f gives (x ∷ xs) all = (gives x all.0, mapped f gives xs all.1)

  pub flattened : (f : X → List Y) → ((x : X) → P x → AllByRecursion Q (f x)) → (xs : List X)
      → AllByRecursion P xs → AllByRecursion Q (flat_map f xs)
  flattened f gives [] all = tt
  flattened f gives (x ∷ xs) all =
      both Q (f x) (flat_map f xs) (gives x all.0) (flattened f gives xs all.1)

-- ---- the values of entries

module _ {K X : Type 0} (P : X → Type 0) where
  abbrev pub EachValue : List (K × X) → Type 0
  EachValue entries = AllByRecursion (λ (entry : K × X). P entry.1) entries

  pub each_of_values : (es : List (K × X)) → EachValue es → AllByRecursion P (values_of es)
  each_of_values [] each = tt
  each_of_values (e ∷ es) each = (each.0, each_of_values es each.1)

  -- what is found
  pub found_one : (test : K → Bool) (es : List (K × X)) → EachValue es
      → IfSome (lookup test es) P
  found_one test [] each = tt
  found_one test (e ∷ es) each =
      found_step P (test e.0) e.1 (lookup test es) each.0 (found_one test es each.1)

  -- one value is replaced
  pub each_set : (test : K → Bool) (es : List (K × X)) (x : X) → P x → EachValue es
      → EachValue (set_value test es x)
  each_set test [] x new each = tt
  each_set test (e ∷ es) x new each =
      elim (test e.0) as (λ b. EachValue (cond b ((e.0, x) ∷ es) (e ∷ set_value test es x))) [
        | true ↦ (new, each.1)
        | false ↦ (each.0, each_set test es x new each.1)
      ]

  changed_in : (test : K → Bool) (change : X → X) → ((x : X) → P x → P (change x))
      → (es : List (K × X)) (found : Option X) → IfSome found P → EachValue es
      → EachValue (option_map_or (λ x. set_value test es (change x)) found es)
  changed_in test change keeps es None one each = each
  changed_in test change keeps es (Some x) one each =
      each_set test es (change x) (keeps x one) each

  pub each_changed : (test : K → Bool) (change : X → X) → ((x : X) → P x → P (change x))
      → (es : List (K × X)) → EachValue es
      → EachValue (option_map_or (λ x. set_value test es (change x)) (lookup test es) es)
  each_changed test change keeps es each =
      changed_in test change keeps es (lookup test es) (found_one test es each) each

  -- one is put in
  pub each_inserted : (eq : K → K → Bool) (k : K) (x : X) → P x → (es : List (K × X))
      → EachValue es → EachValue (insert_entry eq es k x)
  each_inserted eq k x new [] each = (new, tt)
  each_inserted eq k x new (e ∷ es) each =
      elim (eq k e.0) as (λ b. EachValue (cond b ((e.0, x) ∷ es)
      (e ∷ insert_entry eq es k x))) [
        | true ↦ (new, each.1)
        | false ↦ (each.0, each_inserted eq k x new es each.1)
      ]

  -- some are left out
  pub each_left : (p : K × X → Bool) (es : List (K × X)) → EachValue es → EachValue (filter p es)
  each_left p es each = filtered (λ (entry : K × X). P entry.1) p es each

  pub each_but_one : (test : K → Bool) (es : List (K × X)) → EachValue es
      → EachValue (remove_entry test es)
  each_but_one test [] each = tt
  each_but_one test (e ∷ es) each =
      elim (test e.0) as (λ b. EachValue (cond b es (e ∷ remove_entry test es))) [
        | true ↦ each.1
        | false ↦ (each.0, each_but_one test es each.1)
      ]
