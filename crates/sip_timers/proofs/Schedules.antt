-- Lemmas on a schedule: whose index it is after each change, and what is due in it.
use Rattle.std.proofs.Common.{◌≡◌, ℕ, ◌+◌, ◌≤◌, ◌<◌, Bool, true, false, cond, ◌&&◌, List, [], ◌∷◌, ◌++◌, map, filter, Option, Some, None, IfSome, refl, sym, ap, subst, ◌∙◌, arith, length, take, drop, get_or, length-drop}
use Rattle.std.specs.Prelude.{IfNone, nat_lt, nat_le, ◌==◌}
use Rattle.std.specs.List.{list_any, IsDistinct}
use Rattle.std.specs.List.Sorted.{IsPermutation, IsSorted, IsStrictlySortedBy}
use Rattle.std.specs.Map.{keys_of}
use Rattle.std.specs.Ordering.{is_eq, is_gt, ordering_then, nat_cmp, eq_by_cmp}
use Rattle.std.specs.Cmp.{IsTotalOrder, eq_by_cmp_equiv}
use Rattle.std.specs.BTreeMap.{is_at}
use Rattle.std.specs.declared.cmp.Ordering.{Ordering}
use Rattle.std.proofs.lemmas.Bool.{false≢true, leb-false, lt-leb, eqb-true, eq-eqb, ne_eqb, and_parts}
use Rattle.std.proofs.lemmas.Cmp.{tied_itself, nat_eq_equiv}
use Rattle.std.proofs.lemmas.List.{length-map, get_or-map, drop_more, map_more}
use Rattle.std.proofs.lemmas.List.Folds.{list_any_at}
use Rattle.std.proofs.lemmas.List.Sorted.{list_any-IsPermutation}
use Rattle.std.proofs.lemmas.Map.{lookup-none}
use Rattle.std.proofs.lemmas.Map.Entries.{none_past_head}
use Rattle.std.proofs.lemmas.Map.Keys.{IsDistinct-tail, IsDistinct-from_apart, Less-from_sorted}
use Rattle.std.proofs.lemmas.Map.Made.{IsDistinct-keys_filter}
use Rattle.std.proofs.lemmas.Option.{same_Some}
use Rattle.sip_timers.specs.Queue.{moment, due_keys, is_due, if_later}
use Rattle.sip_timers.specs.Index.{due_cmp, is_due_at, is_moment, IsIndexOf, with_moment}
use Rattle.sip_timers.proofs.Dues.{by_bool, Puts, put_changes, changes_twice, index_changed, moment_tied, same_moment, armed_at, there_at, at_most, due_count, due_in_front, tied_pair}
use Rattle.sip_timers.proofs.Moments.{given}
use Rattle.sip_timers.proofs.Sorts.{rises_if_distinct}

-- ---- equal moments

-- an index of moments is also one of equal moments
pub index_of_same : {K : Type 0} (cmp : K → K → Ordering) (moments others : K → Option ℕ)
    (dues : List (ℕ × K)) → ((q : K) → moments q ≡ others q) → IsIndexOf cmp moments dues
    → IsIndexOf cmp others dues
index_of_same cmp moments others dues same index = λ at q.
    index at q ∙ ap (is_moment at) (same q)

-- ---- a change of one key

-- a pair is put in where there was none
come : (due at : ℕ) → cond (due == at) true false ≡ (at == due)
come due at = by_bool (due == at) (λ b. rw b) (λ b. rw b) ∙ nat_eq_equiv.symm due at

-- a pair is taken out
gone : (former at : ℕ) → cond (former == at) false (at == former) ≡ false
gone former at =
    by_bool (former == at) (λ same. rw same) (λ apart. rw apart
    (nat_eq_equiv.symm at former ∙ apart))

-- a pair is put in, and then the former one taken out
come_gone : (former due at : ℕ) → (former ≡ due → ⊥)
    → cond (former == at) false (cond (due == at) true (at == former)) ≡ (at == due)
come_gone former due at other =
    by_bool (former == at)
    (λ same.
    ap (λ b. cond b false (cond (due == at) true (at == former))) same
    ∙ sym (ne_eqb at due (λ e. other (eqb-true former at same ∙ e))))
    (λ apart.
    ap (λ b. cond b false (cond (due == at) true (at == former))) apart
    ∙ ap (cond (due == at) true) (nat_eq_equiv.symm at former ∙ apart) ∙ come due at)

module _ {K : Type 0} {cmp : K → K → Ordering} (total : IsTotalOrder cmp)
    (moments : K → Option ℕ) (dues rest : List (ℕ × K)) (key : K) (due : ℕ)
    (index : IsIndexOf cmp moments dues) where
  pub armed : moments key ≡ None → Puts cmp dues rest due key true
      → IsIndexOf cmp (with_moment cmp moments key (Some due)) rest
  armed absent puts =
      index_changed total moments dues rest key (λ at had. cond (due == at) true had) (Some due)
      index (put_changes cmp key dues rest due true puts)
      (λ at. ap (λ o. cond (due == at) true (is_moment at o)) absent ∙ come due at)

  pub disarmed : moments key ≡ Some due → Puts cmp dues rest due key false
      → IsIndexOf cmp (with_moment cmp moments key None) rest
  disarmed there takes =
      index_changed total moments dues rest key (λ at had. cond (due == at) false had) None
      index (put_changes cmp key dues rest due false takes)
      (λ at. ap (λ o. cond (due == at) false (is_moment at o)) there ∙ gone due at)

  -- a key that has just been armed is disarmed again
  pub undone : moments key ≡ None
      → IsIndexOf cmp (with_moment cmp (with_moment cmp moments key (Some due)) key None) rest
      → IsIndexOf cmp moments rest
  undone absent again =
      index_of_same cmp (with_moment cmp (with_moment cmp moments key (Some due)) key None) moments
      rest
      (λ q. by_bool (is_at (cmp key) q)
      (λ here. rw here (sym (moment_tied total moments dues index key q here ∙ absent)))
      (λ apart. rw apart))
      again

module _ {K : Type 0} {cmp : K → K → Ordering} (total : IsTotalOrder cmp)
    (moments : K → Option ℕ) (dues between rest : List (ℕ × K)) (key : K) (former due : ℕ)
    (index : IsIndexOf cmp moments dues) (there : moments key ≡ Some former) where
  pub rearmed : Puts cmp dues between former key false → Puts cmp between rest due key true
      → IsIndexOf cmp (with_moment cmp moments key (Some due)) rest
  rearmed takes puts =
      index_changed total moments dues rest key
      (λ at had. cond (due == at) true (cond (former == at) false had)) (Some due) index
      (changes_twice cmp key dues between rest (λ at had. cond (former == at) false had)
      (λ at had. cond (due == at) true had) (put_changes cmp key dues between former false takes)
      (put_changes cmp key between rest due true puts))
      (λ at. ap (λ o. cond (due == at) true (cond (former == at) false (is_moment at o))) there
      ∙ ap (cond (due == at) true) (gone former at) ∙ come due at)

  pub replaced : (former ≡ due → ⊥) → Puts cmp dues between due key true
      → Puts cmp between rest former key false
      → IsIndexOf cmp (with_moment cmp moments key (Some due)) rest
  replaced other puts takes =
      index_changed total moments dues rest key
      (λ at had. cond (former == at) false (cond (due == at) true had)) (Some due) index
      (changes_twice cmp key dues between rest (λ at had. cond (due == at) true had)
      (λ at had. cond (former == at) false had) (put_changes cmp key dues between due true puts)
      (put_changes cmp key between rest former false takes))
      (λ at. ap (λ o. cond (former == at) false (cond (due == at) true (is_moment at o))) there
      ∙ come_gone former due at other)

-- ---- the first pair

module _ {K : Type 0} {cmp : K → K → Ordering} (total : IsTotalOrder cmp)
    (moments : K → Option ℕ) (dues : List (ℕ × K)) (index : IsIndexOf cmp moments dues) where
  before_none : (first : ℕ × K)
      → ((p : ℕ × K) → is_due_at cmp dues p.0 p.1 ≡ true → is_gt (due_cmp cmp first p) ≡ false)
      → (q : K) (o : Option ℕ) → moments q ≡ o → IfSome o (λ other. first.0 ≤ other)
  before_none first least q None is = tt
  before_none first least q (Some other) is =
      at_most first.0 other (cmp first.1 q)
      (least (other, q) (there_at total moments dues index other q is))

  pub earliest_due : (first : ℕ × K)
      → ((p : ℕ × K) → is_due_at cmp dues p.0 p.1 ≡ true → is_gt (due_cmp cmp first p) ≡ false)
      → (q : K) → IfSome (moments q) (λ other. first.0 ≤ other)
  earliest_due first least q = before_none first least q (moments q) refl

  pub nothing_due : length dues ≡ 0 → (q : K) → moments q ≡ None
  nothing_due empty q =
      same_moment (moments q) None (λ at. sym (index at q) ∙ nothing_in dues empty at)
    where
      nothing_in : (ds : List (ℕ × K)) → length ds ≡ 0 → (at : ℕ) → is_due_at cmp ds at q ≡ false
      nothing_in [] empty at = refl
      nothing_in (d ∷ ds) empty at = absurd (omega arith)

-- if the earliest moment isn't due, no key is
pub calm_before : {K : Type 0} (now : ℕ) (moments : K → Option ℕ) (first : Option ℕ)
    → IfSome first (λ due. (q : K) → IfSome (moments q) (λ other. due ≤ other))
    → IfNone first ((q : K) → moments q ≡ None) → is_due now first ≡ false
    → (q : K) → is_due now (moments q) ≡ false
calm_before now moments None before none quiet q = ap (is_due now) (none q)
calm_before now moments (Some due) before none quiet q = later (moments q) (before q)
  where
    later : (o : Option ℕ) → IfSome o (λ other. due ≤ other) → is_due now o ≡ false
    later None from = refl
    later (Some other) from =
        let after : now < due = leb-false due now quiet in
        lt-leb other now (omega (arith, after, from))

-- ---- taking out what is due

-- the pair that is taken out is the next one of the whole list
pub next_place : {X Y : Type 0} (f : X → Y) (all : List X) (i : ℕ) (x : X) (rest : List X)
    → drop i all ≡ x ∷ rest
    → (map f (take (i + 1) all) ≡ map f (take i all) ++ f x ∷ []) × (drop (i + 1) all ≡ rest)
next_place f all i x rest is =
    let within : i < length all = omega (arith, ap length is, length-drop i all) in
    let both : x ∷ rest ≡ get_or all i x ∷ drop (i + 1) all = sym is ∙ drop_more all i x within in
    let first : get_or all i x ≡ x = cc in
    (map_more f all i x within ∙ ap (λ y. map f (take i all) ++ f y ∷ []) first, cc)

-- the entries that the pairs stand for
abbrev entries_of : {K : Type 0} → List (ℕ × K) → List (K × ℕ)
entries_of dues = map (λ d. (d.1, d.0)) dues

names_are : {K : Type 0} (ds : List (ℕ × K)) → map (λ d. d.1) ds ≡ keys_of (entries_of ds)
names_are [] = refl
names_are (d ∷ ds) = ap (λ ks. d.1 ∷ ks) (names_are ds)

due_names : {K : Type 0} (now : ℕ) (ds : List (ℕ × K))
    → map (λ d. d.1) (filter (λ d. nat_le d.0 now) ds) ≡ due_keys now (entries_of ds)
due_names now [] = refl
due_names now (d ∷ ds) =
    by_bool (nat_le d.0 now)
    (λ due. rw due (ap (λ ks. d.1 ∷ ks) (due_names now ds)))
    (λ waits. rw waits (due_names now ds))

left_at : (now at : ℕ) (o : Option ℕ)
    → (is_moment at o && nat_lt now at) ≡ is_moment at (if_later now o)
left_at now at None = refl
left_at now at (Some due) =
    by_bool (at == due)
    (λ same.
    ap (λ b. b && nat_lt now at) same ∙ ap (nat_lt now) (eqb-true at due same)
    ∙ by_bool (nat_lt now due) (λ later. rw later (sym same)) (λ past. rw past))
    (λ apart.
    ap (λ b. b && nat_lt now at) apart
    ∙ by_bool (nat_lt now due) (λ later. rw later (sym apart)) (λ past. rw past))

module _ {K : Type 0} {cmp : K → K → Ordering} (total : IsTotalOrder cmp) where
  abbrev is_it : ℕ → K → ℕ × K → Bool
  is_it at q d = is_eq (ordering_then (nat_cmp at d.0) (cmp q d.1))

  -- the pairs at the moments that pass a test
  kept_at : (f : ℕ → Bool) (ds : List (ℕ × K)) (at : ℕ) (q : K)
      → is_due_at cmp (filter (λ d. f d.0) ds) at q ≡ (is_due_at cmp ds at q && f at)
  kept_at f [] at q = refl
  kept_at f (d ∷ ds) at q =
      let more = kept_at f ds at q in
      by_bool (is_it at q d)
      (λ here.
      let same : f at ≡ f d.0 =
      ap f (eqb-true at d.0 (and_parts (at == d.0) (is_eq (cmp q d.1))
      (sym (tied_pair at d.0 (cmp q d.1)) ∙ here)).0) in
      by_bool (f d.0)
      (λ keep. rw (keep, here) (sym (same ∙ keep)))
      (λ leave. rw (leave, here) (more ∙ ap (λ b. is_due_at cmp ds at q && b) (same ∙ leave)
      ∙ by_bool (is_due_at cmp ds at q) (λ e. rw e) (λ e. rw e) ∙ sym (same ∙ leave))))
      (λ apart. by_bool (f d.0) (λ keep. rw (keep, apart) more) (λ leave. rw (leave, apart) more))

  -- pairs with different keys are the index of their own moments
  own_index : (ds : List (ℕ × K)) → IsDistinct (eq_by_cmp cmp) (keys_of (entries_of ds))
      → (at : ℕ) (q : K) → is_due_at cmp ds at q ≡ is_moment at (moment cmp (entries_of ds) q)
  own_index [] differ at q = refl
  own_index (d ∷ ds) differ at q =
      let more = own_index ds (IsDistinct-tail (eq_by_cmp cmp) d.1 (keys_of (entries_of ds)) differ)
      at q in
      let first = tied_pair at d.0 (cmp q d.1) in
      by_bool (is_at (cmp q) d.1)
      (λ tied.
      let rest : is_due_at cmp ds at q ≡ false =
      more ∙ ap (is_moment at) (lookup-none (is_at (cmp q)) (entries_of ds)
      (none_past_head (eq_by_cmp_equiv total) q (d.1, d.0) (entries_of ds) differ tied)) in
      rw (first, tied, rest) (by_bool (at == d.0) (λ e. rw e) (λ e. rw e)))
      (λ apart.
      let none : is_it at q d ≡ false =
      first ∙ ap (λ b. (at == d.0) && b) apart ∙ by_bool (at == d.0) (λ e. rw e) (λ e. rw e) in
      rw (none, apart) more)

  module _ (moments : K → Option ℕ) (all : List (ℕ × K)) (index : IsIndexOf cmp moments all)
      (ordered : IsStrictlySortedBy (due_cmp cmp) all) where
    at_place : (i : ℕ) (d : ℕ × K) → i < length all
        → moments (get_or all i d).1 ≡ Some (get_or all i d).0
    at_place i d within =
        let a = get_or all i d in
        let same : (a.0 == a.0) ≡ true = eq-eqb a.0 a.0 refl in
        let tied : is_at (cmp a.1) a.1 ≡ true = ap is_eq (tied_itself total a.1) in
        armed_at total moments all index a.0 a.1 (list_any_at (is_it a.0 a.1) all i d within
        (tied_pair a.0 a.0 (cmp a.1 a.1) ∙ rw (same, tied) refl))

    differ : IsDistinct (eq_by_cmp cmp) (keys_of (entries_of all))
    differ =
        subst (IsDistinct (eq_by_cmp cmp)) (names_are all)
        (IsDistinct-from_apart (eq_by_cmp cmp) (map (λ d. d.1) all) (λ i j k lt below.
        let d : ℕ × K = (0, k) in
        let within : j < length all = omega (arith, length-map all (λ (p : ℕ × K). p.1)) in
        let within_too : i < length all = omega arith in
        let a = get_or all i d in
        let b = get_or all j d in
        by_bool (is_at (cmp a.1) b.1)
        (λ tied.
        let same : b.0 ≡ a.0 = same_Some b.0 a.0 (sym (at_place j d within)
        ∙ moment_tied total moments all index a.1 b.1 tied ∙ at_place i d within_too) in
        let equal : (a.0 == b.0) ≡ true = eq-eqb a.0 b.0 (sym same) in
        absurd (false≢true (sym (ap is_eq (Less-from_sorted (due_cmp cmp) all i j d ordered lt
        within))
        ∙ tied_pair a.0 b.0 (cmp a.1 b.1) ∙ rw (equal, tied) refl)))
        (λ apart. rw (
          get_or-map (λ (p : ℕ × K). p.1) all i d k within_too,
          get_or-map (λ (p : ℕ × K). p.1) all j d k within,
        ) apart)))

    moments_are : (q : K) → moments q ≡ moment cmp (entries_of all) q
    moments_are q =
        same_moment (moments q) (moment cmp (entries_of all) q)
        (λ at. sym (index at q) ∙ own_index all differ at q)

    module _ (now : ℕ) where
      pub popped_left : IsIndexOf cmp (λ q. if_later now (moments q)) (drop (due_count now all) all)
      popped_left at q =
          ap (λ ds. is_due_at cmp ds at q) (due_in_front cmp now all ordered).1
          ∙ kept_at (λ m. nat_lt now m) all at q ∙ ap (λ b. b && nat_lt now at) (index at q)
          ∙ left_at now at (moments q)

      module _ (keys : List K) (are : keys ≡ map (λ d. d.1) (take (due_count now all) all))
          (sorted : List K) (same : IsPermutation keys sorted) where
        keys_are : keys ≡ due_keys now (entries_of all)
        keys_are =
            are ∙ ap (map (λ (d : ℕ × K). d.1)) (due_in_front cmp now all ordered).0
            ∙ due_names now all

        pub popped_given : (q : K) → list_any (is_at (cmp q)) sorted ≡ is_due now (moments q)
        popped_given q =
            sym (list_any-IsPermutation (is_at (cmp q)) keys sorted same)
            ∙ ap (list_any (is_at (cmp q))) keys_are ∙ given total now (entries_of all) differ q
            ∙ ap (is_due now) (sym (moments_are q))

        pub popped_in_order : IsSorted cmp sorted → IsStrictlySortedBy cmp sorted
        popped_in_order is_sorted =
            rises_if_distinct total keys sorted (subst (IsDistinct (eq_by_cmp cmp)) (sym keys_are)
            (IsDistinct-keys_filter (eq_by_cmp cmp) (λ e. nat_le e.1 now) (entries_of all) differ))
            same is_sorted
