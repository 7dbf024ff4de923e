-- Lemmas on taking the entries of due keys out of a queue.
use Rattle.std.proofs.Common.{◌≡◌, ℕ, ◌≤◌, true, false, cond, ◌||◌, List, [], ◌∷◌, ◌++◌, Some, refl, sym, ap, ◌∙◌, length, take, drop}
use Rattle.std.specs.Prelude.{nat_lt, nat_le}
use Rattle.std.specs.List.{list_any, AllByRecursion}
use Rattle.std.specs.List.Sorted.{IsStrictlySortedBy}
use Rattle.std.specs.Option.{unwrap_or}
use Rattle.std.specs.Ordering.{is_eq, ordering_reverse}
use Rattle.std.specs.Cmp.{IsTotalOrder, eq_by_cmp_equiv, Equal-is}
use Rattle.std.specs.BTreeMap.{is_at}
use Rattle.std.specs.Map.{lookup_key, remove_entry, keys_of}
use Rattle.std.specs.declared.cmp.Ordering.{Ordering}
use Rattle.std.specs.declared.cmp.Ordering.TheVariants.{Less, Equal}
use Rattle.std.proofs.lemmas.Bool.{false≢true, lt-ltb, le-ltb, leb-true, leb-false, or_parts}
use Rattle.std.proofs.lemmas.Cmp.{tied_itself, alike_right}
use Rattle.std.proofs.lemmas.List.{drop_all, take_all, append-nil}
use Rattle.std.proofs.lemmas.Map.{lookup-none}
use Rattle.std.proofs.lemmas.Map.Keys.{sorted_head, sorted_tail, IsDistinct-from_sorted}
use Rattle.std.proofs.lemmas.Map.Entries.{none_below_head, none_past_head}
use Rattle.sip_timers.specs.Queue.{moment, is_due, due_keys, later}
use Rattle.sip_timers.proofs.Dues.{by_bool, by_ordering}
use Rattle.sip_timers.proofs.Sorts.{weaker}

-- the map's own keys, in place of those that are taken out one after another
abbrev pub own_keys : {K : Type 0} → (K → K → Ordering) → List K → List (K × ℕ) → List K
own_keys cmp [] entries = []
own_keys cmp (k ∷ ks) entries =
    unwrap_or (lookup_key (is_at (cmp k)) entries) k
    ∷ own_keys cmp ks (remove_entry (is_at (cmp k)) entries)

-- the entries that are left
abbrev pub without : {K : Type 0} → (K → K → Ordering) → List K → List (K × ℕ) → List (K × ℕ)
without cmp [] entries = entries
without cmp (k ∷ ks) entries = without cmp ks (remove_entry (is_at (cmp k)) entries)

module _ {K : Type 0} {cmp : K → K → Ordering} (total : IsTotalOrder cmp) where
  none_past : (q : K) (ks : List K) → AllByRecursion (λ k. cmp q k ≡ Less) ks
      → list_any (is_at (cmp q)) ks ≡ false
  none_past q [] below = refl
  none_past q (k ∷ ks) below =
      ap (λ o. is_eq o || list_any (is_at (cmp q)) ks) below.0 ∙ none_past q ks below.1

  past_first : (q k : K) (ks : List K) → IsStrictlySortedBy cmp (k ∷ ks) → cmp q k ≡ Less
      → list_any (is_at (cmp q)) (k ∷ ks) ≡ false
  past_first q k ks rises less =
      none_past q (k ∷ ks) (
        less,
        weaker (λ z after. total.trans q k z less after) ks (sorted_head cmp k ks rises),
      )

  past_tied : (q k : K) (ks : List K) → IsStrictlySortedBy cmp (k ∷ ks) → cmp q k ≡ Equal
      → list_any (is_at (cmp q)) ks ≡ false
  past_tied q k ks rises tied =
      none_past q ks
      (weaker (λ z after. total.congr q k z tied ∙ after) ks (sorted_head cmp k ks rises))

  -- an entry that none of the keys finds stays
  stays : (e : K × ℕ) (ks : List K) → list_any (is_at (cmp e.0)) ks ≡ false → (es : List (K × ℕ))
      → (own_keys cmp ks (e ∷ es) ≡ own_keys cmp ks es)
      × (without cmp ks (e ∷ es) ≡ e ∷ without cmp ks es)
  stays e [] apart es = (refl, refl)
  stays e (k ∷ ks) apart es =
      let parts = or_parts (is_at (cmp e.0) k) (list_any (is_at (cmp e.0)) ks) apart in
      let misses : is_at (cmp k) e.0 ≡ false = (eq_by_cmp_equiv total).symm k e.0 ∙ parts.0 in
      let further = stays e ks parts.1 (remove_entry (is_at (cmp k)) es) in (
        rw misses (ap (λ own. unwrap_or (lookup_key (is_at (cmp k)) es) k ∷ own) further.0),
        rw misses further.1,
      )

  -- the keys that are found are those that are due
  abbrev AreDue : ℕ → List K → List (K × ℕ) → Type 0
  AreDue now ks es = (q : K) → list_any (is_at (cmp q)) ks ≡ is_due now (moment cmp es q)

  module _ (now : ℕ) (e : K × ℕ) (es : List (K × ℕ))
      (in_order : IsStrictlySortedBy cmp (keys_of (e ∷ es))) where
    first_due : is_due now (moment cmp (e ∷ es) e.0) ≡ nat_le e.1 now
    first_due =
        ap (λ o. is_due now (cond (is_eq o) (Some e.1) (moment cmp es e.0))) (tied_itself total e.0)

    not_further : (q : K) → is_at (cmp q) e.0 ≡ true → is_due now (moment cmp es q) ≡ false
    not_further q tied =
        ap (is_due now) (lookup-none (is_at (cmp q)) es
        (none_past_head (eq_by_cmp_equiv total) q e es
        (IsDistinct-from_sorted cmp (keys_of (e ∷ es)) in_order) tied))

    -- the first entry isn't due
    due_further : (ks : List K) → AreDue now ks (e ∷ es) → nat_le e.1 now ≡ false
        → AreDue now ks es
    due_further ks same waits q =
        same q ∙ by_bool (is_at (cmp q) e.0)
        (λ here.
        ap (λ b. is_due now (cond b (Some e.1) (moment cmp es q))) here ∙ waits
        ∙ sym (not_further q here))
        (λ apart. ap (λ b. is_due now (cond b (Some e.1) (moment cmp es q))) apart)

    passes : (ks : List K) → AreDue now ks (e ∷ es) → nat_le e.1 now ≡ false
        → (own_keys cmp ks es ≡ due_keys now es) × (without cmp ks es ≡ later now es)
        → (own_keys cmp ks (e ∷ es) ≡ due_keys now (e ∷ es))
        × (without cmp ks (e ∷ es) ≡ later now (e ∷ es))
    passes ks same waits further =
        let kept = stays e ks (same e.0 ∙ first_due ∙ waits) es in
        let after : nat_lt now e.1 ≡ true = lt-ltb now e.1 (leb-false e.1 now waits) in
        (rw waits (kept.0 ∙ further.0), rw after (kept.1 ∙ ap (λ left. e ∷ left) further.1))

    -- the first entry is due, and the first key finds it
    module _ (k : K) (ks : List K) (rises : IsStrictlySortedBy cmp (k ∷ ks))
        (same : AreDue now (k ∷ ks) (e ∷ es)) (due : nat_le e.1 now ≡ true) where
      first_tied : cmp k e.0 ≡ Equal
      first_tied =
          by_ordering (cmp k e.0)
          (λ less. absurd (false≢true
          (sym (ap (is_due now) (lookup-none (is_at (cmp k)) (e ∷ es)
          (none_below_head total k e es in_order less)))
          ∙ sym (same k)
          ∙ ap (λ o. is_eq o || list_any (is_at (cmp k)) ks) (tied_itself total k))))
          (λ equal. equal)
          (λ greater. absurd (false≢true
          (sym (past_first e.0 k ks rises (total.antisymm e.0 k ∙ ap ordering_reverse greater))
          ∙ same e.0 ∙ first_due ∙ due)))

      others_due : AreDue now ks es
      others_due q =
          let alike : cmp q k ≡ cmp q e.0 = alike_right total k e.0 q first_tied in
          by_bool (is_at (cmp q) e.0)
          (λ here.
          past_tied q k ks rises (alike ∙ (Equal-is (cmp q e.0)).0 here)
          ∙ sym (not_further q here))
          (λ apart.
          sym (ap (λ b. b || list_any (is_at (cmp q)) ks) (ap is_eq alike ∙ apart)) ∙ same q
          ∙ ap (λ b. is_due now (cond b (Some e.1) (moment cmp es q))) apart)

      finds : (own_keys cmp ks es ≡ due_keys now es) × (without cmp ks es ≡ later now es)
          → (own_keys cmp (k ∷ ks) (e ∷ es) ≡ due_keys now (e ∷ es))
          × (without cmp (k ∷ ks) (e ∷ es) ≡ later now (e ∷ es))
      finds others =
          let here : is_at (cmp k) e.0 ≡ true = ap is_eq first_tied in
          let past : nat_lt now e.1 ≡ false = le-ltb now e.1 (leb-true e.1 now due) in
          (rw (here, due) (ap (λ own. e.0 ∷ own) others.0), rw (here, past) others.1)

  -- taking them out gives the due keys, and leaves the later entries
  pub takes_due : (now : ℕ) (es : List (K × ℕ)) (ks : List K) → IsStrictlySortedBy cmp ks
      → IsStrictlySortedBy cmp (keys_of es) → AreDue now ks es
      → (own_keys cmp ks es ≡ due_keys now es) × (without cmp ks es ≡ later now es)
  takes_due now [] [] rises in_order same = (refl, refl)
  takes_due now [] (k ∷ ks) rises in_order same = absurd (false≢true (sym (same k)
      ∙ ap (λ o. is_eq o || list_any (is_at (cmp k)) ks) (tied_itself total k)))
  takes_due now (e ∷ es) [] rises in_order same =
      by_bool (nat_le e.1 now)
      (λ due. absurd (false≢true (same e.0 ∙ first_due now e es in_order ∙ due)))
      (λ waits. passes now e es in_order [] same waits
      (takes_due now es [] rises (sorted_tail cmp e.0 (keys_of es) in_order)
      (due_further now e es in_order [] same waits)))
  takes_due now (e ∷ es) (k ∷ ks) rises in_order same =
      by_bool (nat_le e.1 now)
      (λ due. finds now e es in_order k ks rises same due
      (takes_due now es ks (sorted_tail cmp k ks rises)
      (sorted_tail cmp e.0 (keys_of es) in_order)
      (others_due now e es in_order k ks rises same due)))
      (λ waits. passes now e es in_order (k ∷ ks) same waits
      (takes_due now es (k ∷ ks) rises (sorted_tail cmp e.0 (keys_of es) in_order)
      (due_further now e es in_order (k ∷ ks) same waits)))

-- no key is left to take out
pub all_taken : {K : Type 0} (cmp : K → K → Ordering) (keys : List K) (i : ℕ) → length keys ≤ i
    → (entries : List (K × ℕ)) → (keys ≡ take i keys ++ own_keys cmp (drop i keys) entries)
    × (entries ≡ without cmp (drop i keys) entries)
all_taken cmp keys i end entries =
    let none = sym (drop_all i keys end) in (
      sym (append-nil (take i keys) ∙ take_all i keys end)
          ∙ ap (λ more. take i keys ++ own_keys cmp more entries) none,
      ap (λ more. without cmp more entries) none,
    )
