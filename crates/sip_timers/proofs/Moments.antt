-- Lemmas on the entries of a queue: the earliest moment, and what `take_due` gives and leaves.
use Rattle.std.proofs.Common.{◌≡◌, ℕ, ◌≤◌, Bool, true, false, cond, List, [], ◌∷◌, ◌⊎◌, inl, inr, Option, Some, None, refl, sym, ap, subst, ◌∙◌, arith, min, filter, nat_le, nat_lt, IfSome, is_some}
use Rattle.std.specs.Prelude.{IfNone, ◌==◌}
use Rattle.std.specs.List.{reduce, fold, list_any, AllByRecursion, IsDistinct}
use Rattle.std.specs.List.Sorted.{IsStrictlySortedBy}
use Rattle.std.specs.Ordering.{is_eq, match_ordering, eq_by_cmp}
use Rattle.std.specs.Cmp.{IsTotalOrder, eq_by_cmp_equiv}
use Rattle.std.specs.BTreeMap.{is_at, insert_entry}
use Rattle.std.specs.Map.{lookup, keys_of, values_of}
use Rattle.std.specs.declared.cmp.Ordering.{Ordering}
use Rattle.std.specs.declared.cmp.Ordering.TheVariants.{Less}
use Rattle.std.proofs.lemmas.Bool.{false≢true, eqb-true, eq-eqb, or_cases, or_left, or_right}
use Rattle.std.proofs.lemmas.Cmp.{tied_itself}
use Rattle.std.proofs.lemmas.Option.{same_Some}
use Rattle.std.proofs.lemmas.Map.{lookup-none}
use Rattle.std.proofs.lemmas.Map.Keys.{IsDistinct-from_sorted, sorted_tail}
use Rattle.std.proofs.lemmas.Map.Entries.{option_filter, lookup-filter-values, none_below_head, none_past_head}
use Rattle.std.proofs.lemmas.Map.Made.{is_some-lookup}
use Rattle.sip_timers.specs.Queue.{moment, is_due, if_later, due_keys, later}
use Rattle.sip_timers.proofs.Dues.{by_bool, by_ordering}

none_some : (n : ℕ) → None ≡ Some n → ⊥
none_some n same = cc

-- ---- the earliest moment

-- a number that is in the list, with none below it, is the least
fold_least : (due a : ℕ) (xs : List ℕ) → due ≤ a → AllByRecursion (λ x. due ≤ x) xs
    → (a ≡ due) ⊎ (list_any (λ x. x == due) xs ≡ true) → fold min a xs ≡ due
fold_least due a [] low every (inl same) = same
fold_least due a [] low every (inr among) = absurd (false≢true among)
fold_least due a (x ∷ xs) low every among =
    let low_too : due ≤ x = every.0 in
    fold_least due (min a x) xs (omega arith) every.1
    (elim among as (λ _. (min a x ≡ due) ⊎ (list_any (λ y. y == due) xs ≡ true)) [
      | inl same ↦ inl (omega arith)
      | inr later ↦ elim (or_cases (x == due) (list_any (λ y. y == due) xs) later)
          as (λ _. (min a x ≡ due) ⊎ (list_any (λ y. y == due) xs ≡ true)) [
            | inl here ↦ let same : x ≡ due = eqb-true x due here in inl (omega arith)
            | inr more ↦ inr more
          ]
    ])

among_values : {K : Type 0} (test : K → Bool) (due : ℕ) (es : List (K × ℕ))
    → lookup test es ≡ Some due → list_any (λ x. x == due) (values_of es) ≡ true
among_values test due [] at = absurd (none_some due at)
among_values test due (e ∷ es) at =
    by_bool (test e.0)
    (λ here. or_left (e.1 == due) (list_any (λ x. x == due) (values_of es)) (eq-eqb e.1 due
    (same_Some e.1 due (sym (ap (λ b. cond b (Some e.1) (lookup test es)) here) ∙ at))))
    (λ apart. or_right (e.1 == due) (list_any (λ x. x == due) (values_of es))
    (among_values test due es (sym (ap (λ b. cond b (Some e.1) (lookup test es)) apart) ∙ at)))

module _ {K : Type 0} {cmp : K → K → Ordering} (total : IsTotalOrder cmp) where
  at_first : (e : K × ℕ) (es : List (K × ℕ)) → moment cmp (e ∷ es) e.0 ≡ Some e.1
  at_first e es = ap (λ o. cond (is_eq o) (Some e.1) (moment cmp es e.0)) (tied_itself total e.0)

  values_from : (due : ℕ) (es : List (K × ℕ)) → IsStrictlySortedBy cmp (keys_of es)
      → ((q : K) → IfSome (moment cmp es q) (λ other. due ≤ other))
      → AllByRecursion (λ x. due ≤ x) (values_of es)
  values_from due [] sorted before = tt
  values_from due (e ∷ es) sorted before = (
    subst (λ (o : Option ℕ). IfSome o (λ other. due ≤ other)) (at_first e es) (before e.0),
    values_from due es (sorted_tail cmp e.0 (keys_of es) sorted) (λ q. by_bool (is_at (cmp q) e.0)
        (λ tied. subst (λ (o : Option ℕ). IfSome o (λ other. due ≤ other))
        (sym (lookup-none (is_at (cmp q)) es (none_past_head (eq_by_cmp_equiv total) q e es
        (IsDistinct-from_sorted cmp (keys_of (e ∷ es)) sorted) tied))) tt)
        (λ apart. subst (λ (o : Option ℕ). IfSome o (λ other. due ≤ other))
        (ap (λ b. cond b (Some e.1) (moment cmp es q)) apart) (before q))),
  )

  -- the same by look-ups
  pub earliest : (es : List (K × ℕ)) → IsStrictlySortedBy cmp (keys_of es) → (first : Option ℕ)
      → IfSome first (λ due. (q : K) → IfSome (moment cmp es q) (λ other. due ≤ other))
      → IfSome first (λ due. (q : K) × (moment cmp es q ≡ Some due))
      → IfNone first ((q : K) → moment cmp es q ≡ None) → first ≡ reduce min (values_of es)
  earliest [] sorted None before at none = refl
  earliest [] sorted (Some due) before (q, at) none = absurd (none_some due at)
  earliest (e ∷ es) sorted None before at none =
      absurd (none_some e.1 (sym (none e.0) ∙ at_first e es))
  earliest (e ∷ es) sorted (Some due) before (q, at) none =
      let every = values_from due (e ∷ es) sorted before in
      ap (λ (m : ℕ). Some m) (sym (fold_least due e.1 (values_of es) every.0 every.1
      (elim (or_cases (e.1 == due) (list_any (λ x. x == due) (values_of es))
      (among_values (is_at (cmp q)) due (e ∷ es) at))
      as (λ _. (e.1 ≡ due) ⊎ (list_any (λ x. x == due) (values_of es) ≡ true)) [
        | inl here ↦ inl (eqb-true e.1 due here)
        | inr more ↦ inr more
      ])))

-- ---- an armed key is given the moment that it has

pub insert_same : {K : Type 0} {cmp : K → K → Ordering} → IsTotalOrder cmp → (es : List (K × ℕ))
    → IsStrictlySortedBy cmp (keys_of es) → (key : K) (due : ℕ) → moment cmp es key ≡ Some due
    → es ≡ insert_entry cmp es key due
insert_same total [] sorted key due armed = let none : None ≡ Some due = armed in cc
insert_same {K} {cmp} total (e ∷ es) sorted key due armed =
    by_ordering (cmp key e.0)
    (λ less.
    let none : moment cmp (e ∷ es) key ≡ None =
    lookup-none (is_at (cmp key)) (e ∷ es) (none_below_head total key e es sorted less) in
    let some : None ≡ Some due = sym none ∙ armed in
    absurd (none_some due some))
    (λ equal.
    let here : Some e.1 ≡ Some due =
    sym (ap (λ o. cond (is_eq o) (Some e.1) (moment cmp es key)) equal) ∙ armed in
    let same : e.1 ≡ due = same_Some e.1 due here in
    sym (ap (λ o. match_ordering o ((key, due) ∷ e ∷ es) ((e.0, due) ∷ es)
    (e ∷ insert_entry cmp es key due)) equal ∙ ap (λ (m : ℕ). (e.0, m) ∷ es) (sym same)))
    (λ greater.
    let after : moment cmp es key ≡ Some due =
    sym (ap (λ o. cond (is_eq o) (Some e.1) (moment cmp es key)) greater) ∙ armed in
    ap (λ rest. e ∷ rest) (insert_same total es
    (sorted_tail cmp e.0 (keys_of es) sorted) key due after)
    ∙ sym (ap (λ o. match_ordering o ((key, due) ∷ e ∷ es) ((e.0, due) ∷ es)
    (e ∷ insert_entry cmp es key due)) greater))

-- ---- what `take_due` leaves and gives

if_later-is : (now : ℕ) (o : Option ℕ) → option_filter (λ due. nat_lt now due) o ≡ if_later now o
if_later-is now None = refl
if_later-is now (Some due) = refl

pub moment-later : {K : Type 0} {cmp : K → K → Ordering} → IsTotalOrder cmp
    → (now : ℕ) (es : List (K × ℕ)) → IsStrictlySortedBy cmp (keys_of es) → (q : K)
    → moment cmp (later now es) q ≡ if_later now (moment cmp es q)
moment-later {K} {cmp} o now es sorted q =
    lookup-filter-values (eq_by_cmp_equiv o) (λ due. nat_lt now due) q es
    (IsDistinct-from_sorted cmp (keys_of es) sorted)
    ∙ if_later-is now (moment cmp es q)

is_due-is : (now : ℕ) (o : Option ℕ)
    → is_some (option_filter (λ due. nat_le due now) o) ≡ is_due now o
is_due-is now None = refl
is_due-is now (Some due) = elim
    (nat_le due now) as (λ b. is_some (cond b (Some due) None) ≡ b) [ true ↦ refl | false ↦ refl ]

pub given : {K : Type 0} {cmp : K → K → Ordering} → IsTotalOrder cmp → (now : ℕ) (es : List (K × ℕ))
    → IsDistinct (eq_by_cmp cmp) (keys_of es) → (q : K)
    → list_any (is_at (cmp q)) (due_keys now es) ≡ is_due now (moment cmp es q)
given {K} {cmp} o now es differ q =
    sym (is_some-lookup (is_at (cmp q)) (filter (λ e. nat_le e.1 now) es))
    ∙ ap is_some
    (lookup-filter-values (eq_by_cmp_equiv o) (λ due. nat_le due now) q es differ)
    ∙ is_due-is now (moment cmp es q)

-- ---- the keys given are in order

kept_above : {K : Type 0} (P : K → Type 0) (p : K × ℕ → Bool) (es : List (K × ℕ))
    → AllByRecursion P (keys_of es) → AllByRecursion P (keys_of (filter p es))
kept_above P p [] all = tt
kept_above P p (e ∷ es) all =
    elim (p e) as (λ b. AllByRecursion P (keys_of (cond b (e ∷ filter p es) (filter p es)))) [
      | true ↦ (all.0, kept_above P p es all.1)
      | false ↦ kept_above P p es all.1
    ]

pub kept_sorted : {K : Type 0} (cmp : K → K → Ordering) (p : K × ℕ → Bool) (es : List (K × ℕ))
    → IsStrictlySortedBy cmp (keys_of es) → IsStrictlySortedBy cmp (keys_of (filter p es))
unfolding IsStrictlySortedBy
kept_sorted cmp p [] sorted = tt
kept_sorted cmp p (e ∷ es) sorted =
    elim (p e) as (λ b. IsStrictlySortedBy cmp (keys_of (cond b (e ∷ filter p es) (filter p es)))) [
      | true ↦ (kept_above (λ y. cmp e.0 y ≡ Less) p es sorted.0, kept_sorted cmp p es sorted.1)
      | false ↦ kept_sorted cmp p es sorted.1
    ]

pub due_keys-sorted : {K : Type 0} (cmp : K → K → Ordering) (now : ℕ) (es : List (K × ℕ))
    → IsStrictlySortedBy cmp (keys_of es) → IsStrictlySortedBy cmp (due_keys now es)
due_keys-sorted cmp now es sorted = kept_sorted cmp (λ e. nat_le e.1 now) es sorted
