-- What one more happening does to the dialog that is read from its opening and all that happened.
use Rattle.std.proofs.Common.{◌≡◌, ℕ, ◌+◌, nat_le, max, ◌||◌, Bool, true, false, cond, List, [], ◌∷◌, ◌++◌, Option, Some, None, Result, Ok, Err, OnOk, refl, sym, ap, ◌∙◌, arith, add-zero, append-nil}
use Rattle.std.specs.Prelude.{count_by, fold}
use Rattle.std.specs.List.{list_any, filter_map, cons_option}
use Rattle.std.proofs.Math.Bool.{or-false}
use Rattle.std.proofs.lemmas.Bool.Decides.{nat_tests}
use Rattle.std.proofs.lemmas.List.Elements.{filter_map-append}
use Rattle.std.proofs.lemmas.List.Folds.{list_any-append}
use Rattle.std.proofs.lemmas.List.Sums.{fold_push}
use Rattle.sip_message.specs.declared.message.Message.{Message}
use Rattle.sip_message.specs.declared.name_addr.NameAddr.{NameAddr}
use Rattle.sip_dialog.specs.declared.dialog.Dialog.{Dialog}
use Rattle.sip_dialog.specs.declared.dialog.DialogState.{DialogState}
use Rattle.sip_dialog.specs.declared.dialog.DialogState.TheVariants.{Confirmed, Ended}
use Rattle.sip_dialog.specs.declared.dialog.Side.{Side}
use Rattle.sip_dialog.specs.declared.dialog.Side.TheVariants.{Caller, Callee}
use Rattle.sip_dialog.specs.declared.fault.DialogFault.{DialogFault}
use Rattle.sip_dialog.specs.declared.fault.DialogFault.TheVariants as faults
use Rattle.sip_dialog.specs.Dialog.{is_ended}
use Rattle.sip_dialog.specs.Fault.{ok_unless, accept_fault, ended_fault, is_out_of_order}
use Rattle.sip_dialog.specs.Life.{Happening, Requests, Acknowledges, Accepts, Refreshes, Confirms, Ends, takes_number, accepted_number, is_confirming, is_ending, greater, routes_by, target_by, state_after, dialog_after}
use Rattle.sip_dialog.specs.Opening.{Opening, opened}
use Rattle.sip_dialog.specs.Step.{with_next_number, with_accepted, with_target, confirmed_at, confirmed_by, ended_now}

any_kept : {X : Type 0} (p : X → Bool) (xs : List X) (x : X) → p x ≡ false
    → list_any p (xs ++ x ∷ []) ≡ list_any p xs
any_kept p xs x fails = list_any-append p xs (x ∷ [])
    ∙ ap (λ b. list_any p xs || (b || false)) fails ∙ or-false (list_any p xs)

any_more : {X : Type 0} (p : X → Bool) (xs : List X) (x : X) → p x ≡ true
    → list_any p (xs ++ x ∷ []) ≡ true
any_more p xs x passes = list_any-append p xs (x ∷ [])
    ∙ ap (λ b. list_any p xs || (b || false)) passes
    ∙ elim (list_any p xs) as (λ b. (b || true) ≡ true) [ true ↦ refl | false ↦ refl ]

count_push : {X : Type 0} (p : X → Bool) (xs : List X) (x : X)
    → count_by p (xs ++ x ∷ []) ≡ count_by p xs + cond (p x) 1 0
count_push p xs x = fold_push (λ a y. a + cond (p y) 1 0) 0 xs x

count_kept : {X : Type 0} (p : X → Bool) (xs : List X) (x : X) → p x ≡ false
    → count_by p (xs ++ x ∷ []) ≡ count_by p xs
count_kept p xs x fails =
    count_push p xs x ∙ ap (λ b. count_by p xs + cond b 1 0) fails ∙ add-zero (count_by p xs)

count_more : {X : Type 0} (p : X → Bool) (xs : List X) (x : X) → p x ≡ true
    → count_by p (xs ++ x ∷ []) ≡ count_by p xs + 1
count_more p xs x passes = count_push p xs x ∙ ap (λ b. count_by p xs + cond b 1 0) passes

abbrev accepted : List Happening → List ℕ
accepted life = filter_map accepted_number life

accepted_kept : (life : List Happening) (h : Happening) → accepted_number h ≡ None
    → accepted (life ++ h ∷ []) ≡ accepted life
accepted_kept life h none =
    filter_map-append accepted_number life (h ∷ [])
    ∙ ap (λ o. accepted life ++ cons_option o []) none ∙ append-nil (accepted life)

accepted_more : (life : List Happening) (h : Happening) (n : ℕ) → accepted_number h ≡ Some n
    → accepted (life ++ h ∷ []) ≡ accepted life ++ n ∷ []
accepted_more life h n is =
    filter_map-append accepted_number life (h ∷ []) ∙ ap (λ o. accepted life ++ cons_option o []) is

-- the fields of a dialog that change
abbrev dialog_with : Dialog → DialogState → List ℕ → List NameAddr → ℕ → Option ℕ → Dialog
dialog_with base state target route_set local_cseq remote_cseq = record base {
  state = state;
  target = target;
  route_set = route_set;
  local_cseq = local_cseq;
  remote_cseq = remote_cseq;
}

same : (base : Dialog) (s s' : DialogState) (t t' : List ℕ) (r r' : List NameAddr) (l l' : ℕ)
    (m m' : Option ℕ) → s ≡ s' → t ≡ t' → r ≡ r' → l ≡ l' → m ≡ m'
    → dialog_with base s t r l m ≡ dialog_with base s' t' r' l' m'
same base s s' t t' r r' l l' m m' p q u v w = cc

module _ (start : Opening) (life : List Happening) where
  abbrev before : Dialog
  before = dialog_after start life

  state_kept : (h : Happening) → is_ending h ≡ false → is_confirming h ≡ false
      → state_after (opened start).state (life ++ h ∷ []) ≡ before.state
  state_kept h p q = rw (any_kept is_ending life h p, any_kept is_confirming life h q) refl

  routes_more : (h : Happening) → fold (routes_by (opened start).side) (opened start).route_set
      (life ++ h ∷ []) ≡ routes_by (opened start).side before.route_set h
  routes_more h = fold_push (routes_by (opened start).side) (opened start).route_set life h

  target_more : (h : Happening) → fold (target_by (opened start).side) (opened start).target
      (life ++ h ∷ []) ≡ target_by (opened start).side before.target h
  target_more h = fold_push (target_by (opened start).side) (opened start).target life h

  local_kept : (h : Happening) → takes_number h ≡ false
      → (opened start).local_cseq + count_by takes_number (life ++ h ∷ []) ≡ before.local_cseq
  local_kept h fails =
      ap (λ n. (opened start).local_cseq + n) (count_kept takes_number life h fails)

  remote_kept : (h : Happening) → accepted_number h ≡ None
      → fold greater (opened start).remote_cseq (accepted (life ++ h ∷ [])) ≡ before.remote_cseq
  remote_kept h none =
      ap (λ ns. fold greater (opened start).remote_cseq ns) (accepted_kept life h none)

  requests_more : (method : List ℕ)
      → dialog_after start (life ++ Requests method ∷ []) ≡ with_next_number before
  requests_more method =
      let counted : (opened start).local_cseq + count_by takes_number (life ++ Requests method ∷ [])
      ≡ before.local_cseq + 1 =
      (let e = count_more takes_number life (Requests method) refl in omega arith) in
      same (opened start) _ _ _ _ _ _ _ _ _ _ (state_kept (Requests method) refl refl)
      (target_more (Requests method)) (routes_more (Requests method)) counted
      (remote_kept (Requests method) refl)

  acknowledges_more : (number : ℕ) → dialog_after start (life ++ Acknowledges number ∷ []) ≡ before
  acknowledges_more number =
      same (opened start) _ _ _ _ _ _ _ _ _ _ (state_kept (Acknowledges number) refl refl)
      (target_more (Acknowledges number)) (routes_more (Acknowledges number))
      (local_kept (Acknowledges number) refl) (remote_kept (Acknowledges number) refl)

  accepts_more : (number : ℕ) → greater before.remote_cseq number ≡ Some number
      → dialog_after start (life ++ Accepts number ∷ []) ≡ with_accepted before number
  accepts_more number above =
      let remote : fold greater (opened start).remote_cseq (accepted (life ++ Accepts number ∷ []))
      ≡ Some number =
      ap (λ ns. fold greater (opened start).remote_cseq ns)
      (accepted_more life (Accepts number) number refl)
      ∙ fold_push greater (opened start).remote_cseq (accepted life) number ∙ above in
      same (opened start) _ _ _ _ _ _ _ _ _ _ (state_kept (Accepts number) refl refl)
      (target_more (Accepts number)) (routes_more (Accepts number))
      (local_kept (Accepts number) refl) remote

  refreshes_more : (uri : List ℕ)
      → dialog_after start (life ++ Refreshes uri ∷ []) ≡ with_target before uri
  refreshes_more uri =
      same (opened start) _ _ _ _ _ _ _ _ _ _ (state_kept (Refreshes uri) refl refl)
      (target_more (Refreshes uri)) (routes_more (Refreshes uri))
      (local_kept (Refreshes uri) refl) (remote_kept (Refreshes uri) refl)

  ends_more : dialog_after start (life ++ Ends ∷ []) ≡ ended_now before
  ends_more =
      let state : state_after (opened start).state (life ++ Ends ∷ []) ≡ Ended =
      ap (λ b. cond b Ended (cond (list_any is_confirming (life ++ Ends ∷ [])) Confirmed
      (opened start).state)) (any_more is_ending life Ends refl) in
      same (opened start) _ _ _ _ _ _ _ _ _ _ state (target_more Ends) (routes_more Ends)
      (local_kept Ends refl) (remote_kept Ends refl)

  state_confirmed : (response : Message) → list_any is_ending life ≡ false
      → state_after (opened start).state (life ++ Confirms response ∷ []) ≡ Confirmed
  state_confirmed response going =
      rw (
        any_kept is_ending life (Confirms response) refl,
        going,
        any_more is_confirming life (Confirms response) refl,
      ) refl

  -- the routes and the target that a response gives, on each side
  confirmed_with : (side : Side) → side ≡ (opened start).side → (response : Message)
      → dialog_with (opened start) Confirmed
      (target_by (opened start).side before.target (Confirms response))
      (routes_by (opened start).side before.route_set (Confirms response)) before.local_cseq
      before.remote_cseq ≡ confirmed_at side before response
  confirmed_with Caller is response = rw (← is) refl
  confirmed_with Callee is response = rw (← is) refl

  confirms_more : (response : Message) → list_any is_ending life ≡ false
      → dialog_after start (life ++ Confirms response ∷ []) ≡ confirmed_by before response
  confirms_more response going =
      same (opened start) _ _ _ _ _ _ _ _ _ _ (state_confirmed response going)
      (target_more (Confirms response)) (routes_more (Confirms response))
      (local_kept (Confirms response) refl) (remote_kept (Confirms response) refl)
      ∙ confirmed_with (opened start).side refl response

-- ---- over all that happened, if the old dialog stands for it

none_of_ok : (fault : Option DialogFault) (u : Unit {0}) → Ok u ≡ ok_unless fault → fault ≡ None
none_of_ok None u e = refl
none_of_ok (Some f) u e = absurd cc

greatest : (other number : ℕ) (b : Bool) → nat_le number other ≡ b
    → cond b (Some faults.OutOfOrder) None ≡ None → max other number ≡ number
greatest other number true is none = absurd cc
greatest other number false is none = grind (arith, nat_tests)

above_last : (remote : Option ℕ) (number : ℕ)
    → cond (is_out_of_order remote number) (Some faults.OutOfOrder) None ≡ None
    → greater remote number ≡ Some number
above_last None number none = refl
above_last (Some other) number none =
    ap Some (greatest other number (nat_le number other) refl none)

above : (ended : Bool) (remote : Option ℕ) (number : ℕ)
    → cond ended (Some faults.Ended)
    (cond (is_out_of_order remote number) (Some faults.OutOfOrder) None) ≡ None
    → greater remote number ≡ Some number
above true remote number none = absurd cc
above false remote number none = above_last remote number none

never_ended : (ended confirmed : Bool) (state : DialogState)
    → cond (is_ended (cond ended Ended (cond confirmed Confirmed state))) (Some faults.Ended) None
    ≡ None → ended ≡ false
never_ended true confirmed state none = absurd cc
never_ended false confirmed state none = refl

pub request_stands : (old : Dialog) (method : List ℕ)
    → (start : Opening) (life : List Happening) → old ≡ dialog_after start life
    → with_next_number old ≡ dialog_after start (life ++ Requests method ∷ [])
request_stands old method start life stands =
    ap with_next_number stands ∙ sym (requests_more start life method)

pub ack_stands : (old : Dialog) (number : ℕ) (start : Opening) (life : List Happening)
    → old ≡ dialog_after start life
    → old ≡ dialog_after start (life ++ Acknowledges number ∷ [])
ack_stands old number start life stands = stands ∙ sym (acknowledges_more start life number)

pub accept_stands : (old new : Dialog) (answer : Result (Unit {0}) DialogFault) (number : ℕ)
    → answer ≡ ok_unless (accept_fault old number) → OnOk answer (new ≡ with_accepted old number)
    → (start : Opening) (life : List Happening) → old ≡ dialog_after start life
    → OnOk answer (new ≡ dialog_after start (life ++ Accepts number ∷ []))
accept_stands old new (Ok u) number is after start life stands =
    let going : accept_fault (dialog_after start life) number ≡ None =
    ap (λ d. accept_fault d number) (sym stands) ∙ none_of_ok (accept_fault old number) u is in
    after ∙ ap (λ d. with_accepted d number) stands
    ∙ sym (accepts_more start life number (above _ _ number going))
accept_stands old new (Err fault) number is after start life stands = tt

pub refresh_stands : (old new : Dialog) (answer : Result (Unit {0}) DialogFault) (uri : List ℕ)
    → OnOk answer (new ≡ with_target old uri)
    → (start : Opening) (life : List Happening) → old ≡ dialog_after start life
    → OnOk answer (new ≡ dialog_after start (life ++ Refreshes uri ∷ []))
refresh_stands old new (Ok u) uri after start life stands =
    after ∙ ap (λ d. with_target d uri) stands ∙ sym (refreshes_more start life uri)
refresh_stands old new (Err fault) uri after start life stands = tt

pub confirm_stands : (old new : Dialog) (answer : Result (Unit {0}) DialogFault)
    (response : Message) → OnOk answer (ended_fault old ≡ None)
    → OnOk answer (new ≡ confirmed_by old response)
    → (start : Opening) (life : List Happening) → old ≡ dialog_after start life
    → OnOk answer (new ≡ dialog_after start (life ++ Confirms response ∷ []))
confirm_stands old new (Ok u) response is_open after start life stands =
    let going : list_any is_ending life ≡ false =
    never_ended (list_any is_ending life) (list_any is_confirming life) (opened start).state
    (ap ended_fault (sym stands) ∙ is_open) in
    after ∙ ap (λ d. confirmed_by d response) stands ∙ sym (confirms_more start life response going)
confirm_stands old new (Err fault) response is_open after start life stands = tt

pub end_stands : (old new : Dialog) → new ≡ ended_now old
    → (start : Opening) (life : List Happening) → old ≡ dialog_after start life
    → new ≡ dialog_after start (life ++ Ends ∷ [])
end_stands old new after start life stands =
    after ∙ ap ended_now stands ∙ sym (ends_more start life)
