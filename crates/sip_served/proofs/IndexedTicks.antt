-- A tick of all held requests by number whose moment has come.
use Rattle.std.proofs.Common.{◌≡◌, ℕ, ◌≤◌, true, false, cond, ◌||◌, List, [], ◌∷◌, ◌++◌, map, filter, Option, None, Some, refl, sym, ap, ◌∙◌, arith, append_assoc}
use Rattle.std.specs.Prelude.{nat_le}
use Rattle.std.specs.BTreeMap.{BTreeMap, is_at}
use Rattle.std.specs.Cmp.{eq_by_cmp_equiv}
use Rattle.std.specs.List.{flat_map, list_any}
use Rattle.std.specs.List.Sorted.{IsStrictlySortedBy}
use Rattle.std.specs.Map.{values_of}
use Rattle.std.specs.Option.{option_and_then, option_map_or}
use Rattle.std.specs.Ordering.{nat_cmp}
use Rattle.std.proofs.lemmas.Bool.{leb-true, leb-false, lt-ltb, le-ltb}
use Rattle.std.proofs.lemmas.Cmp.{nat_cmp_total}
use Rattle.std.proofs.lemmas.Map.Keys.{sorted_head}
use Rattle.sip_timers.specs.Index as timers
use Rattle.sip_timers.specs.Queue.{if_later, is_due}
use Rattle.sip_timers.proofs.Schedules as schedules
use Rattle.sip_user.specs.declared.item.CallOut.{CallOut}
use Rattle.sip_served.specs.declared.held_request.HeldRequest.{HeldRequest}
use Rattle.sip_served.specs.Steps.Indexed.{at, due_at, kept_ticked, number_ticked, number_told}
use Rattle.sip_served.specs.Tick.{is_kept_at, request_due, request_ticked}
use Rattle.sip_served.proofs.Indexes.{by_bool}
use Rattle.sip_served.proofs.Numbered.{InOrder, tied_numbers}
use Rattle.sip_served.proofs.NumberedTicks.{all_ticked, all_told, due_ticked, has, not_among, these_due}
use Rattle.sip_served.proofs.QuietBeforeDue.{calm_kept, calm_request}

-- the moments, without those of the numbers that are still to come
abbrev pub hidden : List ℕ → (ℕ → Option ℕ) → ℕ → Option ℕ
hidden left moments q = cond (has q left) None (moments q)

-- ---- the first numbers

later_or_due : (now : ℕ) (moment : Option ℕ)
    → if_later now moment ≡ cond (is_due now moment) None moment
later_or_due now None = refl
later_or_due now (Some due) =
    by_bool (nat_le due now)
    (λ le.
    ap (λ b. cond b (Some due) None) (le-ltb now due (leb-true due now le))
    ∙ sym (ap (λ b. cond b None (Some due)) le))
    (λ gt.
    ap (λ b. cond b (Some due) None) (lt-ltb now due (leb-false due now gt))
    ∙ sym (ap (λ b. cond b None (Some due)) gt))

pub first_hidden : (now : ℕ) (moments : ℕ → Option ℕ) (left : List ℕ) (dues : List (ℕ × ℕ))
    → ((q : ℕ) → list_any (is_at (nat_cmp q)) left ≡ is_due now (moments q))
    → timers.IsIndexOf nat_cmp (λ q. if_later now (moments q)) dues
    → timers.IsIndexOf nat_cmp (hidden left moments) dues
first_hidden now moments left dues given tied =
    schedules.index_of_same nat_cmp (λ q. if_later now (moments q)) (hidden left moments) dues
    (λ q.
    later_or_due now (moments q) ∙ ap (λ b. cond b None (moments q)) (sym (given q)))
    tied

-- ---- one number more

module _ (old new : BTreeMap ℕ HeldRequest) (now number : ℕ)
    (moves : (q : ℕ) → at new q ≡ cond (is_at (nat_cmp number) q)
    (option_and_then (kept_ticked now) (at old number)) (at old q)) where
  pub below_ticked : (next : ℕ) → ((n : ℕ) → next ≤ n → at old n ≡ None) → (n : ℕ) → next ≤ n
      → at new n ≡ None
  below_ticked next below n le =
      moves n
      ∙ by_bool (is_at (nat_cmp number) n)
      (λ here.
      ap (λ b. cond b (option_and_then (kept_ticked now) (at old number)) (at old n)) here
      ∙ ap (λ k. option_and_then (kept_ticked now) (at old k)) (tied_numbers number n here)
      ∙ ap (option_and_then (kept_ticked now)) (below n le))
      (λ apart.
      ap (λ b. cond b (option_and_then (kept_ticked now) (at old number)) (at old n)) apart
      ∙ below n le)

  pub hidden_next : (rest : List ℕ) (dues : List (ℕ × ℕ))
      → IsStrictlySortedBy nat_cmp (number ∷ rest)
      → timers.IsIndexOf nat_cmp (timers.with_moment nat_cmp
      (hidden (number ∷ rest) (due_at old)) number (due_at new number)) dues
      → timers.IsIndexOf nat_cmp (hidden rest (due_at new)) dues
  hidden_next rest dues rises tied =
      schedules.index_of_same nat_cmp
      (timers.with_moment nat_cmp (hidden (number ∷ rest) (due_at old)) number (due_at new number))
      (hidden rest (due_at new)) dues
      (λ q. by_bool (is_at (nat_cmp number) q)
      (λ here.
      let same : number ≡ q = tied_numbers number q here in
      ap (λ b. cond b (due_at new number) (hidden (number ∷ rest) (due_at old) q)) here
      ∙ ap (due_at new) same
      ∙ sym (ap (λ b. cond b None (due_at new q))
      (not_among number rest (sorted_head nat_cmp number rest rises) q (omega (arith, same)))))
      (λ apart.
      ap (λ b. cond b (due_at new number) (hidden (number ∷ rest) (due_at old) q)) apart
      ∙ ap (λ b. cond (b || has q rest) None (due_at old q))
      ((eq_by_cmp_equiv nat_cmp_total).symm q number ∙ apart)
      ∙ ap (λ o. cond (has q rest) None (option_and_then request_due o))
      (sym (moves q
      ∙ ap (λ b. cond b (option_and_then (kept_ticked now) (at old number)) (at old q)) apart))))
      tied

-- nothing is hidden at the end
pub none_hidden : (moments : ℕ → Option ℕ) (left : List ℕ) (dues : List (ℕ × ℕ)) → left ≡ []
    → timers.IsIndexOf nat_cmp (hidden left moments) dues
    → timers.IsIndexOf nat_cmp moments dues
none_hidden moments left dues none tied =
    schedules.index_of_same nat_cmp (hidden left moments) moments dues
    (λ q. ap (λ ns. cond (has q ns) None (moments q)) none) tied

-- ---- all of them

abbrev pub ticked_at : ℕ → HeldRequest → HeldRequest
ticked_at now held = (request_ticked now held).0

abbrev pub told_at : ℕ → HeldRequest → List CallOut
told_at now held = (request_ticked now held).1

calm : (now : ℕ) (held : HeldRequest) → is_due now (request_due held) ≡ false
    → (ticked_at now held ≡ held) × (is_kept_at now held ≡ true) × (told_at now held ≡ [])
calm now held quiet =
    let same = calm_request now held quiet in
    ((λ i. (same i).0), calm_kept now held quiet, (λ i. (same i).1))

due_by_number : (now : ℕ) (o : Option HeldRequest)
    → is_due now (option_and_then request_due o)
    ≡ option_map_or (λ held. is_due now (request_due held)) o false
due_by_number now None = refl
due_by_number now (Some held) = refl

module _ (now : ℕ) (requests : BTreeMap ℕ HeldRequest) (in_order : InOrder requests.entries)
    (numbers : List ℕ) (rises : IsStrictlySortedBy nat_cmp numbers)
    (given : (q : ℕ) → list_any (is_at (nat_cmp q)) numbers ≡ is_due now (due_at requests q)) where
  pub whole_tick :
      (values_of (all_ticked (ticked_at now) (is_kept_at now) (told_at now) numbers requests.entries)
      ≡ filter (is_kept_at now) (map (ticked_at now) (values_of requests.entries)))
      × (all_told (ticked_at now) (is_kept_at now) (told_at now) numbers requests.entries
      ≡ flat_map (told_at now) (values_of requests.entries))
  whole_tick =
      let due = λ (held : HeldRequest). is_due now (request_due held) in
      let these = these_due due numbers requests.entries rises in_order
      (λ q. given q ∙ due_by_number now (at requests q)) in
      let both = due_ticked (ticked_at now) (is_kept_at now) (told_at now) due (calm now)
      requests.entries in_order in (
        ap (λ ns. values_of (all_ticked (ticked_at now) (is_kept_at now) (told_at now) ns
            requests.entries)) these ∙ both.0,
        ap (λ ns. all_told (ticked_at now) (is_kept_at now) (told_at now) ns requests.entries) these
            ∙ both.1,
      )

-- what is told before and after one number more
pub told_next : (now number : ℕ) (left rest : List ℕ) (old new : BTreeMap ℕ HeldRequest)
    (outs more : List CallOut) → left ≡ number ∷ rest
    → new.entries ≡ number_ticked now number old → more ≡ outs ++ number_told now number old
    → more ++ all_told (ticked_at now) (is_kept_at now) (told_at now) rest new.entries
    ≡ outs ++ all_told (ticked_at now) (is_kept_at now) (told_at now) left old.entries
told_next now number left rest old new outs more left_is entries told =
    let after = all_told (ticked_at now) (is_kept_at now) (told_at now) in
    let said = number_told now number old in
    ap (λ (xs : List CallOut). xs ++ after rest new.entries) told
    ∙ append_assoc outs said (after rest new.entries)
    ∙ ap (λ (es : List (ℕ × HeldRequest)). outs ++ (said ++ after rest es)) entries
    ∙ sym (ap (λ (ns : List ℕ). outs ++ after ns old.entries) left_is)
