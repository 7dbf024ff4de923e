-- A map from numbers to things, seen as the list of its things in the order of their numbers.
use Rattle.std.proofs.Common.{◌≡◌, ℕ, ◌≤◌, ◌<◌, Bool, true, false, cond, List, [], ◌∷◌, ◌++◌, Option, Some, None, refl, sym, ap, subst, ◌∙◌, arith}
use Rattle.std.specs.Prelude.{find, reverse, is_some}
use Rattle.std.specs.List.{AllByRecursion, list_any}
use Rattle.std.specs.List.Sorted.{IsStrictlySortedBy}
use Rattle.std.specs.Map.{keys_of, values_of, lookup, set_value}
use Rattle.std.specs.BTreeMap.{is_at, insert_entry}
use Rattle.std.specs.Option.{option_or}
use Rattle.std.specs.Ordering.{is_eq, is_gt, match_ordering, nat_cmp}
use Rattle.std.specs.declared.cmp.Ordering.TheVariants.{Less, Greater}
use Rattle.std.proofs.lemmas.Bool.{false≢true}
use Rattle.std.proofs.lemmas.Cmp.{by_ranked, ranked, tied_itself, nat_cmp_total}
use Rattle.std.proofs.lemmas.List.{map-append, reverse-append}
use Rattle.std.proofs.lemmas.List.Folds.{find-append}
use Rattle.std.proofs.lemmas.Map.Keys.{sorted_head, sorted_tail}
use Rattle.sip_served.specs.State.{changed_first}
use Rattle.sip_served.proofs.Indexes.{by_bool}

-- the thing of a number
abbrev pub get : {X : Type 0} → ℕ → List (ℕ × X) → Option X
get n es = lookup (is_at (nat_cmp n)) es

abbrev pub InOrder : {X : Type 0} → List (ℕ × X) → Type 0
InOrder es = IsStrictlySortedBy nat_cmp (keys_of es)

-- ---- numbers

pub tied_numbers : (a b : ℕ) → is_eq (nat_cmp a b) ≡ true → a ≡ b
tied_numbers a b e =
    by_ranked (a < b) (a ≡ b) (b < a) (nat_cmp a b) (ranked a b (nat_cmp a b) refl)
    (λ o lt. absurd (false≢true (sym (ap is_eq o) ∙ e)))
    (λ o same. same)
    (λ o gt. absurd (false≢true (sym (ap is_eq o) ∙ e)))

pub below_from_less : (a b : ℕ) → nat_cmp a b ≡ Less → a < b
below_from_less a b e =
    by_ranked (a < b) (a ≡ b) (b < a) (nat_cmp a b) (ranked a b (nat_cmp a b) refl)
    (λ o lt. lt)
    (λ o same. absurd (false≢true (ap is_eq (sym e ∙ o))))
    (λ o gt. absurd (false≢true (ap is_gt (sym e ∙ o))))

pub apart_numbers : (a b : ℕ) → b < a → is_eq (nat_cmp a b) ≡ false
apart_numbers a b above =
    by_bool (is_eq (nat_cmp a b))
    (λ same. absurd (omega (arith, above, tied_numbers a b same))) (λ apart. apart)

above_is_greater : (a b : ℕ) → b < a → nat_cmp a b ≡ Greater
above_is_greater a b above =
    by_ranked (a < b) (a ≡ b) (b < a) (nat_cmp a b) (ranked a b (nat_cmp a b) refl)
    (λ o lt. absurd (omega (arith, above, lt))) (λ o same. absurd (omega (arith, above, same)))
    (λ o gt. o)

pub at_itself : (n : ℕ) → is_eq (nat_cmp n n) ≡ true
at_itself n = ap is_eq (tied_itself nat_cmp_total n)

-- ---- the first of a map and the others

module _ {X : Type 0} where
  above_all : (k : ℕ) (es : List (ℕ × X))
      → AllByRecursion (λ y. nat_cmp k y ≡ Less) (keys_of es)
      → (m : ℕ) (x : X) → get m es ≡ Some x → k < m
  above_all k [] all m x found = absurd cc
  above_all k (e ∷ es) all m x found =
      by_bool (is_eq (nat_cmp m e.0))
      (λ here. subst (λ n. k < n) (sym (tied_numbers m e.0 here)) (below_from_less k e.0 all.0))
      (λ apart.
      above_all k es all.1 m x (sym (ap (λ b. cond b (Some e.1) (get m es)) apart) ∙ found))

  past_first : (e : ℕ × X) (es : List (ℕ × X)) → InOrder (e ∷ es) → (m : ℕ) (x : X)
      → get m es ≡ Some x → e.0 < m
  past_first e es in_order m x found =
      above_all e.0 es (sorted_head nat_cmp e.0 (keys_of es) in_order) m x found

  still_there : (e : ℕ × X) (es : List (ℕ × X)) → InOrder (e ∷ es) → (m : ℕ) (x : X)
      → get m es ≡ Some x → get m (e ∷ es) ≡ Some x
  still_there e es in_order m x found =
      ap (λ b. cond b (Some e.1) (get m es))
      (apart_numbers m e.0 (past_first e es in_order m x found)) ∙ found

  pub first_is : (e : ℕ × X) (es : List (ℕ × X)) → get e.0 (e ∷ es) ≡ Some e.1
  first_is e es = ap (λ b. cond b (Some e.1) (get e.0 es)) (at_itself e.0)

  here_is : (e : ℕ × X) (es : List (ℕ × X)) (n : ℕ) (x : X) → is_eq (nat_cmp n e.0) ≡ true
      → get n (e ∷ es) ≡ Some x → e.1 ≡ x
  here_is e es n x here found =
      let same : Some e.1 ≡ Some x = sym (ap (λ b. cond b (Some e.1) (get n es)) here) ∙ found in cc

  there_is : (e : ℕ × X) (es : List (ℕ × X)) (n : ℕ) (o : Option X) → is_eq (nat_cmp n e.0) ≡ false
      → get n (e ∷ es) ≡ o → get n es ≡ o
  there_is e es n o apart found = sym (ap (λ b. cond b (Some e.1) (get n es)) apart) ∙ found

  -- ---- the first and the last that pass a test

  module _ (test : X → Bool) where
    -- no thing passes
    abbrev pub NonePass : List (ℕ × X) → Type 0
    NonePass es = (m : ℕ) (y : X) → get m es ≡ Some y → test y ≡ false

    none_later : (e : ℕ × X) (es : List (ℕ × X)) → InOrder (e ∷ es) → NonePass (e ∷ es)
        → NonePass es
    none_later e es in_order none m y found = none m y (still_there e es in_order m y found)

    pub none_found : (es : List (ℕ × X)) → InOrder es → NonePass es
        → find test (values_of es) ≡ None
    none_found [] in_order none = refl
    none_found (e ∷ es) in_order none =
        ap (λ b. cond b (Some e.1) (find test (values_of es))) (none e.0 e.1 (first_is e es))
        ∙ none_found es (sorted_tail nat_cmp e.0 (keys_of es) in_order)
        (none_later e es in_order none)

    pub first_found : (es : List (ℕ × X)) → InOrder es → (n : ℕ) (x : X) → get n es ≡ Some x
        → test x ≡ true
        → ((m : ℕ) (y : X) → get m es ≡ Some y → test y ≡ true → n ≤ m)
        → find test (values_of es) ≡ Some x
    first_found [] in_order n x found passes least = absurd cc
    first_found (e ∷ es) in_order n x found passes least =
        by_bool (is_eq (nat_cmp n e.0))
        (λ here.
        let same : e.1 ≡ x = here_is e es n x here found in
        ap (λ b. cond b (Some e.1) (find test (values_of es))) (ap test same ∙ passes)
        ∙ ap (λ y. Some y) same)
        (λ apart.
        let later : get n es ≡ Some x = there_is e es n (Some x) apart found in
        by_bool (test e.1)
        (λ too. absurd (omega (
          arith,
          past_first e es in_order n x later,
          least e.0 e.1 (first_is e es) too,
        )))
        (λ fails.
        ap (λ b. cond b (Some e.1) (find test (values_of es))) fails
        ∙ first_found es (sorted_tail nat_cmp e.0 (keys_of es) in_order) n x later passes
        (λ m y there ok. least m y (still_there e es in_order m y there) ok)))

    -- a change of the first that passes, by its number
    pub first_changed : (change : X → X) (es : List (ℕ × X)) → InOrder es → (n : ℕ) (x : X)
        → get n es ≡ Some x → test x ≡ true
        → ((m : ℕ) (y : X) → get m es ≡ Some y → test y ≡ true → n ≤ m)
        → (w : X) → w ≡ change x
        → values_of (set_value (is_at (nat_cmp n)) es w) ≡ changed_first test change (values_of es)
    first_changed change [] in_order n x found passes least w is = absurd cc
    first_changed change (e ∷ es) in_order n x found passes least w is =
        by_bool (is_eq (nat_cmp n e.0))
        (λ here.
        let same : e.1 ≡ x = here_is e es n x here found in
        ap (λ b. values_of (cond b ((e.0, w) ∷ es) (e ∷ set_value (is_at (nat_cmp n)) es w))) here
        ∙ ap (λ y. y ∷ values_of es) (is ∙ sym (ap change same))
        ∙ sym (ap (λ b. cond b (change e.1 ∷ values_of es)
        (e.1 ∷ changed_first test change (values_of es))) (ap test same ∙ passes)))
        (λ apart.
        let later : get n es ≡ Some x = there_is e es n (Some x) apart found in
        by_bool (test e.1)
        (λ too. absurd (omega (
          arith,
          past_first e es in_order n x later,
          least e.0 e.1 (first_is e es) too,
        )))
        (λ fails.
        ap (λ b. values_of (cond b ((e.0, w) ∷ es) (e ∷ set_value (is_at (nat_cmp n)) es w))) apart
        ∙ ap (λ ys. e.1 ∷ ys) (first_changed change es
        (sorted_tail nat_cmp e.0 (keys_of es) in_order) n x later passes
        (λ m y there ok. least m y (still_there e es in_order m y there) ok) w is)
        ∙ sym (ap (λ b. cond b (change e.1 ∷ values_of es)
        (e.1 ∷ changed_first test change (values_of es))) fails)))

    pub none_changed : (change : X → X) (es : List (ℕ × X)) → InOrder es → NonePass es
        → changed_first test change (values_of es) ≡ values_of es
    none_changed change [] in_order none = refl
    none_changed change (e ∷ es) in_order none =
        ap (λ b. cond b (change e.1 ∷ values_of es)
        (e.1 ∷ changed_first test change (values_of es))) (none e.0 e.1 (first_is e es))
        ∙ ap (λ ys. e.1 ∷ ys) (none_changed change es
        (sorted_tail nat_cmp e.0 (keys_of es) in_order) (none_later e es in_order none))

    find_back : (e : ℕ × X) (es : List (ℕ × X)) (o : Option X)
        → find test (reverse (values_of es)) ≡ o
        → find test (reverse (values_of (e ∷ es)))
        ≡ option_or o (cond (test e.1) (Some e.1) None)
    find_back e es o is =
        ap (find test) (reverse-append (e.1 ∷ []) (values_of es))
        ∙ find-append test (reverse (values_of es)) (e.1 ∷ [])
        ∙ ap (λ o. option_or o (cond (test e.1) (Some e.1) None)) is

    pub none_found_back : (es : List (ℕ × X)) → InOrder es → NonePass es
        → find test (reverse (values_of es)) ≡ None
    none_found_back [] in_order none = refl
    none_found_back (e ∷ es) in_order none =
        find_back e es None (none_found_back es (sorted_tail nat_cmp e.0 (keys_of es) in_order)
        (none_later e es in_order none))
        ∙ ap (λ b. cond b (Some e.1) None) (none e.0 e.1 (first_is e es))

    pub last_found : (es : List (ℕ × X)) → InOrder es → (n : ℕ) (x : X) → get n es ≡ Some x
        → test x ≡ true
        → ((m : ℕ) (y : X) → get m es ≡ Some y → test y ≡ true → m ≤ n)
        → find test (reverse (values_of es)) ≡ Some x
    last_found [] in_order n x found passes greatest = absurd cc
    last_found (e ∷ es) in_order n x found passes greatest =
        let rest = sorted_tail nat_cmp e.0 (keys_of es) in_order in
        by_bool (is_eq (nat_cmp n e.0))
        (λ here.
        let same : e.1 ≡ x = here_is e es n x here found in
        let at : n ≡ e.0 = tied_numbers n e.0 here in
        find_back e es None (none_found_back es rest (λ m y there.
        by_bool (test y)
        (λ ok. absurd (omega (
          arith,
          at,
          past_first e es in_order m y there,
          greatest m y (still_there e es in_order m y there) ok,
        )))
        (λ fails. fails)))
        ∙ ap (λ b. cond b (Some e.1) None) (ap test same ∙ passes) ∙ ap (λ y. Some y) same)
        (λ apart.
        find_back e es (Some x) (last_found es rest n x (there_is e es n (Some x) apart found)
        passes (λ m y there ok. greatest m y (still_there e es in_order m y there) ok)))

    -- some thing passes if one is found
    pub any_found : (xs : List X) → list_any test xs ≡ is_some (find test xs)
    any_found [] = refl
    any_found (x ∷ xs) =
        by_bool (test x) (λ ok. rw ok) (λ fails. rw fails (any_found xs))

  -- ---- one thing more

  pub pushed : (es : List (ℕ × X)) (n : ℕ) (x : X) → ((m : ℕ) → n ≤ m → get m es ≡ None)
      → insert_entry nat_cmp es n x ≡ es ++ (n, x) ∷ []
  pushed [] n x above = refl
  pushed (e ∷ es) n x above =
      let below : e.0 < n = omega (arith, λ (le : n ≤ e.0). never (first_is e es) (above e.0 le)) in
      ap (λ o. match_ordering o ((n, x) ∷ e ∷ es) ((e.0, x) ∷ es) (e ∷ insert_entry nat_cmp es n x))
      (above_is_greater n e.0 below)
      ∙ ap (λ fs. e ∷ fs) (pushed es n x (λ m from.
      there_is e es m None (apart_numbers m e.0 (omega (arith, below, from))) (above m from)))
    where
      never : get e.0 (e ∷ es) ≡ Some e.1 → get e.0 (e ∷ es) ≡ None → ⊥
      never some none = absurd cc

  pub pushed_values : (es : List (ℕ × X)) (n : ℕ) (x : X)
      → ((m : ℕ) → n ≤ m → get m es ≡ None)
      → values_of (insert_entry nat_cmp es n x) ≡ values_of es ++ x ∷ []
  pushed_values es n x above =
      ap values_of (pushed es n x above) ∙ map-append (λ (e : ℕ × X). e.1) es ((n, x) ∷ [])
