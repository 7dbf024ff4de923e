-- A tick of a map of things by number: those that are due, in the order of their numbers.
use Rattle.std.proofs.Common.{◌≡◌, ℕ, ◌≤◌, ◌<◌, Bool, true, false, cond, ◌||◌, List, [], ◌∷◌, ◌++◌, map, filter, Option, Some, None, refl, sym, ap, subst, ◌∙◌, arith}
use Rattle.std.specs.Prelude.{nat_lt}
use Rattle.std.specs.List.{AllByRecursion, list_any, flat_map}
use Rattle.std.specs.List.Sorted.{IsStrictlySortedBy}
use Rattle.std.specs.Map.{keys_of, values_of, set_value, remove_entry}
use Rattle.std.specs.BTreeMap.{is_at}
use Rattle.std.specs.Option.{option_map_or}
use Rattle.std.specs.Ordering.{is_eq, nat_cmp}
use Rattle.std.specs.declared.cmp.Ordering.TheVariants.{Less}
use Rattle.std.proofs.lemmas.Bool.{false≢true, ltb-true, ltb-false}
use Rattle.std.proofs.lemmas.Map.Keys.{sorted_head, sorted_tail}
use Rattle.sip_served.specs.Steps.Indexed as spec
use Rattle.sip_served.proofs.Indexes.{by_bool}
use Rattle.sip_served.proofs.Numbered.{get, tied_numbers, below_from_less, apart_numbers, at_itself, first_is}

-- ---- two lists of numbers in order are equal if they have the same numbers

abbrev pub has : ℕ → List ℕ → Bool
has q ns = list_any (is_at (nat_cmp q)) ns

pub not_among : (k : ℕ) (ns : List ℕ) → AllByRecursion (λ y. nat_cmp k y ≡ Less) ns → (q : ℕ)
    → q ≤ k → has q ns ≡ false
not_among k [] all q le = refl
not_among k (n ∷ ns) all q le =
    let above : k < n = below_from_less k n all.0 in
    by_bool (is_eq (nat_cmp q n))
    (λ same. absurd (omega (arith, above, le, tied_numbers q n same)))
    (λ apart. ap (λ b. b || has q ns) apart ∙ not_among k ns all.1 q le)

same_numbers : (ns ms : List ℕ) → IsStrictlySortedBy nat_cmp ns → IsStrictlySortedBy nat_cmp ms
    → ((q : ℕ) → has q ns ≡ has q ms) → ns ≡ ms
same_numbers [] [] rises climbs same = refl
same_numbers [] (m ∷ ms) rises climbs same =
    absurd (false≢true (same m ∙ ap (λ b. b || has m ms) (at_itself m)))
same_numbers (n ∷ ns) [] rises climbs same =
    absurd (false≢true (sym (same n) ∙ ap (λ b. b || has n ns) (at_itself n)))
same_numbers (n ∷ ns) (m ∷ ms) rises climbs same =
    let later = sorted_head nat_cmp n ns rises in
    let further = sorted_head nat_cmp m ms climbs in
    let up : n ≤ m = not_below n m ns later (same m ∙ ap (λ b. b || has m ms) (at_itself m)) in
    let down : m ≤ n =
    not_below m n ms further (sym (same n) ∙ ap (λ b. b || has n ns) (at_itself n)) in
    let at : n ≡ m = omega (arith, up, down) in
    (λ i. at i ∷ same_numbers ns ms (sorted_tail nat_cmp n ns rises)
    (sorted_tail nat_cmp m ms climbs)
    (λ q. by_bool (is_eq (nat_cmp q n))
    (λ here.
    let q_is : q ≡ n = tied_numbers q n here in
    not_among n ns later q (omega (arith, q_is))
    ∙ sym (not_among m ms further q (omega (arith, q_is, at))))
    (λ apart.
    sym (ap (λ b. b || has q ns) apart) ∙ same q
    ∙ ap (λ k. is_eq (nat_cmp q k) || has q ms) (sym at) ∙ ap (λ b. b || has q ms) apart)) i)
  where
    -- a number of the list isn't below its first
    not_below : (a q : ℕ) (rest : List ℕ) → AllByRecursion (λ y. nat_cmp a y ≡ Less) rest
        → has q (a ∷ rest) ≡ true → a ≤ q
    not_below a q rest above there =
        by_bool (nat_lt q a)
        (λ lt.
        let under : q < a = ltb-true q a lt in
        absurd (false≢true (sym (ap (λ b. b || has q rest) (sideways q a under)
        ∙ not_among a rest above q (omega (arith, under))) ∙ there)))
        (λ ge. ltb-false q a ge)
      where
        sideways : (x y : ℕ) → x < y → is_eq (nat_cmp x y) ≡ false
        sideways x y lt =
            by_bool (is_eq (nat_cmp x y)) (λ e. absurd (omega (arith, lt, tied_numbers x y e)))
            (λ e. e)

-- ---- one thing, and all of a list of numbers

module _ {X Y : Type 0} (ticked : X → X) (kept : X → Bool) (told : X → List Y) where
  -- a thing after a tick: it stays, or it is removed
  abbrev thing_ticked : ℕ → List (ℕ × X) → Option X → List (ℕ × X)
  thing_ticked n es o = spec.thing_ticked ticked kept n es o

  abbrev pub number_ticked : ℕ → List (ℕ × X) → List (ℕ × X)
  number_ticked n es = thing_ticked n es (get n es)

  abbrev pub all_ticked : List ℕ → List (ℕ × X) → List (ℕ × X)
  all_ticked [] es = es
  all_ticked (n ∷ ns) es = all_ticked ns (number_ticked n es)

  abbrev pub all_told : List ℕ → List (ℕ × X) → List Y
  all_told [] es = []
  all_told (n ∷ ns) es = option_map_or told (get n es) [] ++ all_told ns (number_ticked n es)

  -- ---- the first thing isn't among the numbers

  past_by : (n : ℕ) (e : ℕ × X) (es : List (ℕ × X)) (o : Option X)
      → is_eq (nat_cmp n e.0) ≡ false → thing_ticked n (e ∷ es) o ≡ e ∷ thing_ticked n es o
  past_by n e es None apart = refl
  past_by n e es (Some x) apart =
      by_bool (kept (ticked x)) (λ stays. rw (stays, apart)) (λ goes. rw (goes, apart))

  past : (n : ℕ) (e : ℕ × X) (es : List (ℕ × X)) → is_eq (nat_cmp n e.0) ≡ false
      → number_ticked n (e ∷ es) ≡ e ∷ number_ticked n es
  past n e es apart =
      ap (λ b. thing_ticked n (e ∷ es) (cond b (Some e.1) (get n es))) apart
      ∙ past_by n e es (get n es) apart

  abbrev Apart : ℕ → List ℕ → Type 0
  Apart k ns = AllByRecursion (λ n. is_eq (nat_cmp n k) ≡ false) ns

  all_past : (ns : List ℕ) (e : ℕ × X) (es : List (ℕ × X)) → Apart e.0 ns
      → (all_ticked ns (e ∷ es) ≡ e ∷ all_ticked ns es) × (all_told ns (e ∷ es) ≡ all_told ns es)
  all_past [] e es apart = (refl, refl)
  all_past (n ∷ ns) e es apart =
      let rest = all_past ns e (number_ticked n es) apart.1 in (
        ap (all_ticked ns) (past n e es apart.0) ∙ rest.0,
        ap (λ b. option_map_or told (cond b (Some e.1) (get n es)) []
            ++ all_told ns (number_ticked n (e ∷ es))) apart.0
            ∙ ap (λ fs. option_map_or told (get n es) [] ++ all_told ns fs) (past n e es apart.0)
            ∙ ap (λ ys. option_map_or told (get n es) [] ++ ys) rest.1,
      )

  -- ---- those that are due

  module _ (due : X → Bool)
      (calm : (x : X) → due x ≡ false
      → (ticked x ≡ x) × (kept x ≡ true) × (told x ≡ [])) where
    abbrev pub due_numbers : List (ℕ × X) → List ℕ
    due_numbers es = keys_of (filter (λ e. due e.1) es)

    later_apart : (k : ℕ) (es : List (ℕ × X))
        → AllByRecursion (λ y. nat_cmp k y ≡ Less) (keys_of es) → Apart k (due_numbers es)
    later_apart k [] above = tt
    later_apart k (e ∷ es) above =
        by_bool (due e.1)
        (λ now.
        subst (λ b. Apart k (keys_of (cond b (e ∷ filter (λ e. due e.1) es)
        (filter (λ e. due e.1) es)))) (sym now)
        (apart_numbers e.0 k (below_from_less k e.0 above.0), later_apart k es above.1))
        (λ later.
        subst (λ b. Apart k (keys_of (cond b (e ∷ filter (λ e. due e.1) es)
        (filter (λ e. due e.1) es)))) (sym later) (later_apart k es above.1))

    abbrev IsTicked : List (ℕ × X) → List ℕ → Type 0
    IsTicked fs ns =
        (values_of (all_ticked ns fs) ≡ filter kept (map ticked (values_of fs)))
        × (all_told ns fs ≡ flat_map told (values_of fs))

    abbrev numbers_if : Bool → ℕ × X → List (ℕ × X) → List ℕ
    numbers_if b e es =
        keys_of (cond b (e ∷ filter (λ e. due e.1) es) (filter (λ e. due e.1) es))

    calm_first : (e : ℕ × X) (es : List (ℕ × X)) → IsTicked es (due_numbers es)
        → Apart e.0 (due_numbers es) → due e.1 ≡ false → IsTicked (e ∷ es) (due_numbers (e ∷ es))
    calm_first e es rest apart later =
        let same = calm e.1 later in
        let beyond = all_past (due_numbers es) e es apart in
        subst (λ b. IsTicked (e ∷ es) (numbers_if b e es)) (sym later) (
          ap values_of beyond.0 ∙ ap (λ ys. e.1 ∷ ys) rest.0
              ∙ sym (ap (λ x. cond (kept x) (x ∷ filter kept (map ticked (values_of es)))
              (filter kept (map ticked (values_of es)))) same.0
              ∙ ap (λ b. cond b (e.1 ∷ filter kept (map ticked (values_of es)))
              (filter kept (map ticked (values_of es)))) same.1),
          beyond.1 ∙ rest.1 ∙ sym (ap (λ ys. ys ++ flat_map told (values_of es)) same.2),
        )

    due_first : (e : ℕ × X) (es : List (ℕ × X)) → IsTicked es (due_numbers es)
        → Apart e.0 (due_numbers es) → due e.1 ≡ true → IsTicked (e ∷ es) (due_numbers (e ∷ es))
    due_first e es rest apart now =
        subst (λ b. IsTicked (e ∷ es) (numbers_if b e es)) (sym now)
        (by_bool (kept (ticked e.1))
        (λ stays.
        let beyond = all_past (due_numbers es) (e.0, ticked e.1) es apart in
        let first : number_ticked e.0 (e ∷ es) ≡ (e.0, ticked e.1) ∷ es =
        ap (thing_ticked e.0 (e ∷ es)) (first_is e es)
        ∙ ap (λ b. cond b (set_value (is_at (nat_cmp e.0)) (e ∷ es) (ticked e.1))
        (remove_entry (is_at (nat_cmp e.0)) (e ∷ es))) stays
        ∙ ap (λ b. cond b ((e.0, ticked e.1) ∷ es)
        (e ∷ set_value (is_at (nat_cmp e.0)) es (ticked e.1))) (at_itself e.0) in (
          ap (λ fs. values_of (all_ticked (due_numbers es) fs)) first
              ∙ ap values_of beyond.0 ∙ ap (λ ys. ticked e.1 ∷ ys) rest.0
              ∙ sym (ap (λ b. cond b (ticked e.1 ∷ filter kept (map ticked (values_of es)))
              (filter kept (map ticked (values_of es)))) stays),
          ap (λ o. option_map_or told o []
              ++ all_told (due_numbers es) (number_ticked e.0 (e ∷ es))) (first_is e es)
              ∙ ap (λ fs. told e.1 ++ all_told (due_numbers es) fs) first
              ∙ ap (λ ys. told e.1 ++ ys) (beyond.1 ∙ rest.1),
        ))
        (λ goes.
        let first : number_ticked e.0 (e ∷ es) ≡ es =
        ap (thing_ticked e.0 (e ∷ es)) (first_is e es)
        ∙ ap (λ b. cond b (set_value (is_at (nat_cmp e.0)) (e ∷ es) (ticked e.1))
        (remove_entry (is_at (nat_cmp e.0)) (e ∷ es))) goes
        ∙ ap (λ b. cond b es (e ∷ remove_entry (is_at (nat_cmp e.0)) es)) (at_itself e.0) in (
          ap (λ fs. values_of (all_ticked (due_numbers es) fs)) first ∙ rest.0
              ∙ sym (ap (λ b. cond b (ticked e.1 ∷ filter kept (map ticked (values_of es)))
              (filter kept (map ticked (values_of es)))) goes),
          ap (λ o. option_map_or told o []
              ++ all_told (due_numbers es) (number_ticked e.0 (e ∷ es))) (first_is e es)
              ∙ ap (λ fs. told e.1 ++ all_told (due_numbers es) fs) first
              ∙ ap (λ ys. told e.1 ++ ys) rest.1,
        )))

    -- what a tick of those that are due does to all
    pub due_ticked : (es : List (ℕ × X)) → IsStrictlySortedBy nat_cmp (keys_of es)
        → (values_of (all_ticked (due_numbers es) es) ≡ filter kept (map ticked (values_of es)))
        × (all_told (due_numbers es) es ≡ flat_map told (values_of es))
    due_ticked [] in_order = (refl, refl)
    due_ticked (e ∷ es) in_order =
        let rest = due_ticked es (sorted_tail nat_cmp e.0 (keys_of es) in_order) in
        let apart = later_apart e.0 es (sorted_head nat_cmp e.0 (keys_of es) in_order) in
        by_bool (due e.1) (due_first e es rest apart) (calm_first e es rest apart)

-- ---- the numbers that are due, in order

module _ {X : Type 0} (due : X → Bool) where
  abbrev dues_if : Bool → ℕ × X → List (ℕ × X) → List ℕ
  dues_if b e es = keys_of (cond b (e ∷ filter (λ e. due e.1) es) (filter (λ e. due e.1) es))

  some_above : (P : ℕ → Type 0) (es : List (ℕ × X)) → AllByRecursion P (keys_of es)
      → AllByRecursion P (keys_of (filter (λ e. due e.1) es))
  some_above P [] all = tt
  some_above P (e ∷ es) all =
      elim (due e.1) as (λ b. AllByRecursion P (dues_if b e es)) [
        | true ↦ (all.0, some_above P es all.1)
        | false ↦ some_above P es all.1
      ]

  numbers_rise : (es : List (ℕ × X)) → IsStrictlySortedBy nat_cmp (keys_of es)
      → IsStrictlySortedBy nat_cmp (keys_of (filter (λ e. due e.1) es))
  unfolding IsStrictlySortedBy
  numbers_rise [] in_order = tt
  numbers_rise (e ∷ es) in_order =
      elim (due e.1) as (λ b. IsStrictlySortedBy nat_cmp (dues_if b e es)) [
        | true ↦ (some_above (λ y. nat_cmp e.0 y ≡ Less) es in_order.0, numbers_rise es in_order.1)
        | false ↦ numbers_rise es in_order.1
      ]

  among_due : (es : List (ℕ × X)) → IsStrictlySortedBy nat_cmp (keys_of es) → (q : ℕ)
      → has q (keys_of (filter (λ e. due e.1) es)) ≡ option_map_or due (get q es) false
  among_due [] in_order q = refl
  among_due (e ∷ es) in_order q =
      let rest = among_due es (sorted_tail nat_cmp e.0 (keys_of es) in_order) q in
      by_bool (is_eq (nat_cmp q e.0))
      (λ here.
      by_bool (due e.1)
      (λ now.
      ap (λ b. has q (dues_if b e es)) now
      ∙ ap (λ b. b || has q (dues_if false e es)) here
      ∙ sym (ap (λ b. option_map_or due (cond b (Some e.1) (get q es)) false) here ∙ now))
      (λ later.
      let at : q ≡ e.0 = tied_numbers q e.0 here in
      ap (λ b. has q (dues_if b e es)) later
      ∙ not_among e.0 (dues_if false e es)
      (some_above (λ y. nat_cmp e.0 y ≡ Less) es
      (sorted_head nat_cmp e.0 (keys_of es) in_order)) q (omega (arith, at))
      ∙ sym (ap (λ b. option_map_or due (cond b (Some e.1) (get q es)) false) here ∙ later)))
      (λ apart.
      by_bool (due e.1)
      (λ now.
      ap (λ b. has q (dues_if b e es)) now
      ∙ ap (λ b. b || has q (dues_if false e es)) apart ∙ rest
      ∙ sym (ap (λ b. option_map_or due (cond b (Some e.1) (get q es)) false) apart))
      (λ later.
      ap (λ b. has q (dues_if b e es)) later ∙ rest
      ∙ sym (ap (λ b. option_map_or due (cond b (Some e.1) (get q es)) false) apart)))

  -- the numbers in order of those that are due
  pub these_due : (ns : List ℕ) (es : List (ℕ × X)) → IsStrictlySortedBy nat_cmp ns
      → IsStrictlySortedBy nat_cmp (keys_of es)
      → ((q : ℕ) → has q ns ≡ option_map_or due (get q es) false)
      → ns ≡ keys_of (filter (λ e. due e.1) es)
  these_due ns es rises in_order same =
      same_numbers ns (keys_of (filter (λ e. due e.1) es)) rises (numbers_rise es in_order)
      (λ q. same q ∙ sym (among_due es in_order q))
