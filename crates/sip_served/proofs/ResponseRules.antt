-- The user's answer: the rules say the same as the steps.
use Rattle.std.proofs.Common.{◌≡◌, ℕ, not, ◌&&◌, ◌||◌, nat_le, nat_lt, Bool, true, false, cond, List, [], ◌∷◌, Ok, refl, sym, ap, ◌∙◌, arith}
use Rattle.std.specs.Prelude.{Option, None, Some, find, option_map, is_some, is_none, if◌then◌else◌}
use Rattle.std.specs.List.{list_any}
use Rattle.std.specs.Option.{option_map_or}
use Rattle.std.specs.Result.{result_ok}
use Rattle.std.proofs.lemmas.Bool.Decides.{nat_tests}
use Rattle.std.proofs.lemmas.Option.{same_Some}
use Rattle.indexmap.specs.IndexMap.{insert_entry}
use Rattle.sip_message.specs.declared.addr.Addr.{Addr}
use Rattle.sip_message.specs.declared.id.Id.{Id}
use Rattle.sip_message.specs.declared.message.Message.{Message}
use Rattle.sip_message.specs.Content.{with_content_of}
use Rattle.sip_message.specs.Response.{response_of}
use Rattle.sip_reliable.specs.declared.send_fault.SendFault.{SendFault}
use Rattle.sip_reliable.specs.declared.send_fault.SendFault.TheVariants as send
use Rattle.sip_reliable.specs.Ledger.{must_wait, ok_unless, send_answer, send_fault}
use Rattle.sip_transactions.specs.declared.input.Command.TheVariants.{Answer}
use Rattle.sip_user.specs.declared.command.Respond.{Respond}
use Rattle.sip_held_dialogs.specs.declared.held_dialog.DialogReference.{DialogReference}
use Rattle.sip_held_dialogs.specs.declared.held_dialog.HeldDialog.{HeldDialog}
use Rattle.sip_user.specs.declared.item.CallOut.{CallOut}
use Rattle.sip_user.specs.declared.item.CallOut.TheVariants.{Command}
use Rattle.sip_user.specs.declared.refusal.Refusal.{Refusal}
use Rattle.sip_user.specs.declared.refusal.Refusal.TheVariants.{AlreadyFinal, BadStatus, DialogEnded, NoSuchRequest, ReliablePending, NotSupported, SequenceUsedUp}
use Rattle.sip_held_dialogs.specs.Dialogs.{Dialogs, confirmed, dialog_changed, early_ended, is_dialog_id, lived}
use Rattle.sip_dialog.specs.Dialog.{is_ended}
use Rattle.sip_dialog.specs.Life.{Confirms}
use Rattle.sip_dialog.specs.Step.{confirmed_by}
use Rattle.sip_dialog.specs.declared.fault.DialogFault.TheVariants as fault
use Rattle.sip_user.specs.Notices.{refused}
use Rattle.sip_user.specs.Refusal.{first_refusal}
use Rattle.sip_held_dialogs.specs.Requests.{dialog_id_of, is_final, has_to_tag, is_invite, is_provisional, is_success, supports_100rel}
use Rattle.sip_served.specs.declared.held_request.HeldRequest.{HeldRequest}
use Rattle.sip_served.specs.RequestLife.{MakesDialog, went_on}
use Rattle.sip_served.specs.Respond.{after_answer, answer_given, answer_to, answered, by_refusal, by_request, dialogs_answered, has_ended, if_so, makes_or_confirms_dialog, is_reliable, is_sent_reliably, is_user_status, makes_dialog, made_dialog, may_be_reliable, refusal_for, refusal_of_fault, rejects, reliable_refusal, respond_taken, sends_as, with_routes, with_rseq}
use Rattle.sip_served.specs.Rules.Responses as rule
use Rattle.sip_served.specs.Rules.Responses.{after_2xx, response_refusal, response_sent, dialogs_after, held_after, respond_command}
use Rattle.sip_served.specs.State.{State, ServedTaken, changed_at, has_id}

-- ---- statuses

below : (status : ℕ) → (nat_lt status 200 || (nat_le 200 status && nat_lt status 300))
    ≡ nat_lt status 300
below status = grind (arith, nat_tests)

apart : (status : ℕ) → is_provisional status ≡ true → is_success status ≡ false
apart status e = grind (arith, nat_tests)

of_dialog_same : (held : HeldRequest) (status : ℕ)
    → makes_or_confirms_dialog held status ≡ rule.is_dialog_response held status
of_dialog_same held status = ap (λ b. is_invite held.request && b) (below status)

makes_same : (held : HeldRequest) (status : ℕ)
    → makes_dialog held status ≡ rule.makes_dialog held status
makes_same held status =
    ap (λ b. b && not (has_to_tag held.request) && is_none held.dialog) (of_dialog_same held status)

inner : (a b c : Bool) → ((a && b && c) ≡ true) → b ≡ true
inner true true c e = refl
inner true false c e = absurd cc
inner false b c e = absurd cc

left_of : (a b : Bool) → (a && b) ≡ true → a ≡ true
left_of true b e = refl
left_of false b e = absurd cc

no_success : (held : HeldRequest) (respond : Respond)
    → rule.is_sent_reliably held respond ≡ true → is_success respond.status ≡ false
no_success held respond e =
    apart respond.status (inner (is_invite held.request) (is_provisional respond.status)
    (supports_100rel held.request) (left_of (rule.may_be_reliable held respond.status) _ e))

-- ---- when it is refused

reliable_same : (reliable closed supported waits success body used : Bool)
    → (reliable ≡ true → success ≡ false)
    → cond reliable (option_map refusal_of_fault (cond closed (Some send.Closed)
    (cond (not supported) (Some send.NotSupported)
    (cond waits (Some send.Unacknowledged) (cond used (Some send.NumbersUsedUp) None)))))
    (cond (success && body) (Some ReliablePending) None)
    ≡ first_refusal ((reliable && closed, AlreadyFinal)
    ∷ (reliable && not supported, NotSupported) ∷ (reliable && waits, ReliablePending)
    ∷ (success && body, ReliablePending) ∷ (reliable && used, SequenceUsedUp) ∷ []) None
reliable_same false closed supported waits success body used e = refl
reliable_same true true supported waits success body used e = refl
reliable_same true false false waits success body used e = refl
reliable_same true false true true success body used e = refl
reliable_same true false true false success body true e = rw (e refl) refl
reliable_same true false true false success body false e = rw (e refl) refl

refusal_same : (dialogs : Dialogs) (held : HeldRequest) (respond : Respond)
    → refusal_for dialogs respond held ≡ response_refusal dialogs held respond
refusal_same dialogs held respond =
    let status = respond.status in
    λ i. first_refusal ((not (is_user_status status), BadStatus)
    ∷ (is_some held.removal, AlreadyFinal)
    ∷ (is_reliable respond.reliability && not (may_be_reliable held status), NotSupported)
    ∷ (of_dialog_same held status i && has_ended dialogs held, DialogEnded) ∷ [])
    (reliable_same (rule.is_sent_reliably held respond) held.ledger.closed held.ledger.supported
    (must_wait held.ledger) (is_success status) (list_any (λ p. p.has_body) held.ledger.waiting)
    (nat_lt 4294967295 held.ledger.next) (no_success held respond) i)

-- ---- the response

-- the ledger doesn't refuse a response that goes out reliably
unfaulted : (b : Bool) (fault : Option SendFault) (otherwise : Option Refusal)
    → cond b (option_map refusal_of_fault fault) otherwise ≡ None → b ≡ true → fault ≡ None
unfaulted b None otherwise e reliable = refl
unfaulted true (Some fault) otherwise e reliable = absurd cc
unfaulted false (Some fault) otherwise e reliable = absurd cc

past_four : (a b c d : Bool) (p q r s : Refusal) (o : Option Refusal)
    → first_refusal ((a, p) ∷ (b, q) ∷ (c, r) ∷ (d, s) ∷ []) o ≡ None → o ≡ None
past_four true b c d p q r s o e = absurd cc
past_four false true c d p q r s o e = absurd cc
past_four false false true d p q r s o e = absurd cc
past_four false false false true p q r s o e = absurd cc
past_four false false false false p q r s o e = e

number_sent : (dialogs : Dialogs) (held : HeldRequest) (respond : Respond)
    → refusal_for dialogs respond held ≡ None → rule.is_sent_reliably held respond ≡ true
    → send_answer held.ledger ≡ Ok held.ledger.next
number_sent dialogs held respond unrefused reliable =
    ap (λ fault. ok_unless fault held.ledger.next)
    (unfaulted (rule.is_sent_reliably held respond) (send_fault held.ledger) _
    (past_four (not (is_user_status respond.status)) (is_some held.removal)
    (is_reliable respond.reliability && not (may_be_reliable held respond.status))
    (makes_or_confirms_dialog held respond.status && has_ended dialogs held) BadStatus AlreadyFinal
    NotSupported DialogEnded (reliable_refusal held respond) unrefused) reliable)

where_so : {X : Type 0} (b : Bool) (x y z : X) → (b ≡ true → x ≡ y) → cond b x z ≡ cond b y z
where_so true x y z e = e refl
where_so false x y z e = refl

response_same : (local : Addr) (held : HeldRequest) (respond : Respond)
    → (rule.is_sent_reliably held respond ≡ true
    → send_answer held.ledger ≡ Ok held.ledger.next)
    → answer_to local held respond ≡ response_sent local held respond
response_same local held respond number =
    let plain = response_of held.request respond.status respond.reason held.tag in
    let routed = with_routes local held.request plain in
    (λ i. with_content_of (if_so (is_sent_reliably held respond.status respond.reliability)
    (with_rseq (result_ok (send_answer held.ledger)))
    (cond (of_dialog_same held respond.status i) routed plain)) respond.content)
    ∙ ap (λ message. with_content_of message respond.content)
    (where_so (rule.is_sent_reliably held respond) _ _ _
    (λ e. ap (λ sent. with_rseq (result_ok sent)
    (cond (rule.is_dialog_response held respond.status) routed plain)) (number e)))

-- ---- the dialogs

confirms_same : (invite provisional success inside : Bool)
    → (invite && (provisional || success) && success && not inside)
    ≡ (invite && success && not inside)
confirms_same false provisional success inside = refl
confirms_same true true success inside = refl
confirms_same true false true inside = refl
confirms_same true false false inside = refl

by_2xx_same : (response : Message) (held : HeldDialog)
    → confirmed response held ≡ after_2xx response held
by_2xx_same response held = by (is_ended held.dialog.state)
  where
    by : (ended : Bool)
        → lived (if is_some (if ended then Some fault.Ended else None) then []
        else Confirms response ∷ []) held
        ≡ (if ended then held else record held { dialog = confirmed_by held.dialog response })
    by true = refl
    by false = refl

dialogs_same : (event : Id) (held : HeldRequest) (status : ℕ) (response : Message)
    (dialogs : Dialogs) → dialogs_answered event held status response dialogs
    ≡ dialogs_after event held status response dialogs
dialogs_same event held status response dialogs =
    let name = dialog_id_of held.request held.tag in
    λ i. cond (makes_same held status i)
    (insert_entry is_dialog_id dialogs name (made_dialog event held status), [])
    (cond (confirms_same (is_invite held.request) (is_provisional status) (is_success status)
    (has_to_tag held.request) i)
    (dialog_changed name (λ held. by_2xx_same response held i) dialogs, [])
    (cond (rejects held status) (early_ended held.id dialogs) (dialogs, [])))

-- ---- the held request

module _ (event : Id) (held : HeldRequest) (respond : Respond) (response : Message) (now : ℕ)
  where
    abbrev life : DialogReference
    life = record { name = dialog_id_of held.request held.tag; created_by = event }

    abbrev in_dialog : Option DialogReference → HeldRequest
    in_dialog dialog = record held { dialog = dialog }

    placed : (b : Bool) → went_on (cond b (MakesDialog life ∷ []) []) held
        ≡ in_dialog (cond b (Some life) held.dialog)
    placed true = refl
    placed false = refl

    by_answer : {A C : Type 0} (f : A → C) (p q : Bool) (a b c : A) (x y z : C)
        → (p ≡ true → f a ≡ x) → f b ≡ y → f c ≡ z
        → f (cond p a (cond q b c)) ≡ cond p x (cond q y z)
    by_answer f true q a b c x y z p1 p2 p3 = p1 refl
    by_answer f false true a b c x y z p1 p2 p3 = p2
    by_answer f false false a b c x y z p1 p2 p3 = p3

    held_same : (rule.is_sent_reliably held respond ≡ true
        → send_answer held.ledger ≡ Ok held.ledger.next)
        → after_answer event respond response now held
        ≡ held_after event held respond response now
    held_same number =
        ap (answered respond.status respond.reliability response now)
        ((λ i. went_on (cond (makes_same held respond.status i) (MakesDialog life ∷ []) []) held)
        ∙ placed (rule.makes_dialog held respond.status))
        ∙ by_answer (λ happened. went_on happened (in_dialog (cond
        (rule.makes_dialog held respond.status) (Some life) held.dialog)))
        (rule.is_sent_reliably held respond) (is_final respond.status) _ _ _ _ _ _
        (λ e. ap (λ sent. went_on (sends_as sent response now) (in_dialog (cond
        (rule.makes_dialog held respond.status) (Some life) held.dialog))) (number e)) refl refl

-- ---- all of it

-- the first of this id is the one that was found
replaced : (id : Id) (change : HeldRequest → HeldRequest) (held : HeldRequest)
    (requests : List HeldRequest) → find (has_id id) requests ≡ Some held
    → changed_at id change requests ≡ changed_at id (λ _. change held) requests
replaced id change held [] found = refl
replaced id change held (one ∷ requests) found =
    here (has_id id one) found (λ later. replaced id change held requests later)
  where
    here : (b : Bool) → cond b (Some one) (find (has_id id) requests) ≡ Some held
        → (find (has_id id) requests ≡ Some held
        → changed_at id change requests ≡ changed_at id (λ _. change held) requests)
        → cond b (change one ∷ requests) (one ∷ changed_at id change requests)
        ≡ cond b (change held ∷ requests) (one ∷ changed_at id (λ _. change held) requests)
    here true found later = ap (λ first. change first ∷ requests) (same_Some one held found)
    here false found later = ap (λ rest. one ∷ rest) (later found)

module _ (state : State) (event : Id) (respond : Respond) (now : ℕ) where
  abbrev left : HeldRequest → Message → List HeldRequest → Dialogs × List CallOut → ServedTaken
  left held response requests dialogs = (
    record state { requests = requests; dialogs = dialogs.0 },
    Command held.id (Answer held.key response) ∷ dialogs.1,
  )

  abbrev given : HeldRequest → ServedTaken
  given held =
      let response = response_sent state.local held respond in
      left held response
      (changed_at respond.id (λ _. held_after event held respond response now) state.requests)
      (dialogs_after event held respond.status response state.dialogs)

  given_same : (held : HeldRequest) → find (has_id respond.id) state.requests ≡ Some held
      → refusal_for state.dialogs respond held ≡ None
      → answer_given state event respond now held ≡ given held
  given_same held found unrefused =
      let number = number_sent state.dialogs held respond unrefused in
      let same = response_same state.local held respond number in
      let response = response_sent state.local held respond in
      (λ i. left held (same i)
      (changed_at respond.id (after_answer event respond (same i) now) state.requests)
      (dialogs_answered event held respond.status (same i) state.dialogs))
      ∙ (λ i. left held response
      (replaced respond.id (after_answer event respond response now) held state.requests found i)
      (dialogs_same event held respond.status response state.dialogs i))
      ∙ (λ i. left held response
      (changed_at respond.id (λ _. held_same event held respond response now number i)
      state.requests) (dialogs_after event held respond.status response state.dialogs))

  by_refused : (held : HeldRequest) (o : Option Refusal)
      → (o ≡ None → answer_given state event respond now held ≡ given held)
      → by_refusal state event respond now held o
      ≡ option_map_or (λ refusal. (state, refused event respond.call_id refusal)) o (given held)
  by_refused held None same = same refl
  by_refused held (Some refusal) same = refl

  by_found : (h : HeldRequest → ServedTaken) (o : Option HeldRequest)
      → ((held : HeldRequest) → o ≡ Some held
      → by_refusal state event respond now held (refusal_for state.dialogs respond held)
      ≡ h held)
      → by_request state event respond now o
      ≡ option_map_or h o (state, refused event respond.call_id NoSuchRequest)
  by_found h None each = refl
  by_found h (Some held) each = each held refl

  taken_same : respond_taken state event respond now ≡ respond_command state event respond now
  unfolding respond_command
  taken_same =
      by_found _ (find (has_id respond.id) state.requests) (λ held found.
      ap (by_refusal state event respond now held) (refusal_same state.dialogs held respond)
      ∙ by_refused held (response_refusal state.dialogs held respond)
      (λ unrefused. given_same held found
      (refusal_same state.dialogs held respond ∙ unrefused)))

pub respond_same : (state : State) (event : Id) (respond : Respond) (now : ℕ)
    → respond_command state event respond now ≡ respond_taken state event respond now
respond_same state event respond now = sym (taken_same state event respond now)
