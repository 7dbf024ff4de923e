-- The next RSeq of a held request: a response of the user that goes out reliably has it, and makes
-- it one more. Nothing else that comes to the server side changes it.
use Rattle.std.proofs.Common.{◌≡◌, ◌⊎◌, inl, inr, ℕ, ◌+◌, Bool, true, false, ◌&&◌, ◌||◌, not, cond, List, [], ◌∷◌, map, refl, sym, ap, subst, ◌∙◌}
use Rattle.std.specs.Prelude.{Option, None, Some, find, is_none, reverse, if◌then◌else◌}
use Rattle.std.specs.List.{AllByRecursion, IsDistinct, list_any}
use Rattle.std.specs.Result.{result_ok}
use Rattle.std.proofs.lemmas.Bool.{false≢true}
use Rattle.std.proofs.lemmas.Map.Keys.{IsDistinct-head, IsDistinct-tail}
use Rattle.sip_message.specs.declared.id.Id.{Id}
use Rattle.sip_message.specs.declared.message.Message.{Message}
use Rattle.sip_message.specs.declared.rack.RAck.{RAck}
use Rattle.sip_reliable.specs.Ledger.{ok_unless, send_answer, send_fault, tick_answer}
use Rattle.sip_reliable.specs.declared.send_fault.SendFault.{SendFault}
use Rattle.sip_reliable.specs.declared.tick.Tick.{Tick}
use Rattle.sip_reliable.specs.declared.tick.Tick.TheVariants as tick
use Rattle.sip_user.specs.declared.command.Respond.{Respond as Answer}
use Rattle.sip_held_dialogs.specs.declared.held_dialog.DialogId.{DialogId}
use Rattle.sip_held_dialogs.specs.declared.held_dialog.DialogReference.{DialogReference}
use Rattle.sip_held_dialogs.specs.declared.held_dialog.HeldDialog.{HeldDialog}
use Rattle.sip_held_dialogs.specs.Dialogs.{dialog_at, dialog_changed}
use Rattle.sip_held_dialogs.specs.Ids.{is_id}
use Rattle.sip_held_dialogs.specs.Requests.{dialog_id_of, has_to_tag, is_bye, is_cancel, is_final, is_invite, is_prack, is_unknown_option}
use Rattle.sip_held_dialogs.proofs.Each.{both, filtered, mapped}
use Rattle.sip_held_dialogs.proofs.Heard.{id_laws}
use Rattle.sip_served.specs.declared.arrival.Arrival.{Arrival}
use Rattle.sip_served.specs.declared.held_request.HeldRequest.{HeldRequest}
use Rattle.sip_served.specs.declared.held_request.SuccessEnd.TheVariants.{Acknowledged}
use Rattle.sip_served.specs.Acknowledgment.{ack_noted, ack_taken, acknowledged_invite, success_ended}
use Rattle.sip_served.specs.RequestLife.{Finishes, MakesDialog, went_on}
use Rattle.sip_served.specs.Respond.{after_answer, answered, is_sent_reliably, makes_dialog, sends_as, sent_as}
use Rattle.sip_served.specs.Rules.Arrivals.{after_487, after_prack, after_request, cancel_for, cancel_received, is_above, is_merged, is_named_by, is_same_branch, no_such_call, prack_for, prack_received, request_for_user, request_in_dialog, request_received}
use Rattle.sip_served.specs.State.{ServedTaken, State, changed_at, has_id}
use Rattle.sip_served.specs.Step.{arrival_taken}
use Rattle.sip_served.specs.Tick.{is_kept_at, provisionals_by, request_ticked, success_ticked, tick_taken}
use Rattle.sip_served.proofs.ArrivalRules.{arrival_same}
use Rattle.sip_served.proofs.FirstChanged.{first_changed}
use Rattle.sip_served.proofs.Found.{passed_id}
use Rattle.sip_served.proofs.RequestIds.{ids_of}
use Rattle.sip_served.proofs.RequestLives.{success_alone}
use Rattle.sip_served.proofs.Rseqs.{next_rseq}
use Rattle.sip_conversation.proofs.Branches.{either, found_or}

-- ---- a response of the user

-- nothing goes out reliably, or it has the next RSeq
abbrev pub Sends : Option ℕ → ℕ → ℕ → Type 0
Sends rseq next after =
    ((rseq ≡ None) × (after ≡ next)) ⊎ ((rseq ≡ Some next) × (after ≡ next + 1))

module _ (r : Answer) (response : Message) (now : ℕ) where
  sends_one : (held : HeldRequest) (o : Option SendFault)
      → Sends (result_ok (ok_unless o held.ledger.next)) held.ledger.next
      (sent_as (ok_unless o held.ledger.next) response now held).ledger.next
  sends_one held None = inr (refl, refl)
  sends_one held (Some fault) = inl (refl, refl)

  sends_answered : (held : HeldRequest) → Sends (next_rseq held r) held.ledger.next
      (answered r.status r.reliability response now held).ledger.next
  sends_answered held =
      elim (is_sent_reliably held r.status r.reliability) as (λ b. Sends (if b
      then result_ok (send_answer held.ledger) else None) held.ledger.next
      (went_on (if b then sends_as (send_answer held.ledger) response now else
      (if is_final r.status then Finishes response r.status now ∷ [] else [])) held).ledger.next) [
        | true ↦ sends_one held (send_fault held.ledger)
        | false ↦ inl (
          refl,
          elim (is_final r.status) as (λ b. (went_on (if b
              then Finishes response r.status now ∷ [] else []) held).ledger.next
              ≡ held.ledger.next) [ true ↦ refl | false ↦ refl ],
        )
      ]

  -- whether it makes a dialog or not
  pub sends_next : (event : Id) (held : HeldRequest)
      → Sends (next_rseq held r) held.ledger.next
      (after_answer event r response now held).ledger.next
  sends_next event held =
      let made : DialogReference = record {
        name = dialog_id_of held.request held.tag;
        created_by = event;
      } in
      elim (makes_dialog held r.status) as (λ b. Sends (next_rseq held r) held.ledger.next
      (answered r.status r.reliability response now
      (went_on (if b then MakesDialog made ∷ [] else []) held)).ledger.next) [
        | true ↦ sends_answered record held { dialog = Some made }
        | false ↦ sends_answered held
      ]

-- ---- a tick

provisionals_next : (t : Tick) (now : ℕ) (held : HeldRequest)
    → ((provisionals_by t now held).0).ledger.next ≡ held.ledger.next
provisionals_next tick.Nothing now held = refl
provisionals_next (tick.Again numbers) now held = refl
provisionals_next tick.GivenUp now held = refl

ticked_next : (now : ℕ) (held : HeldRequest)
    → ((request_ticked now held).0).ledger.next ≡ held.ledger.next
ticked_next now held =
    let first = (success_ticked now held).0 in
    provisionals_next (tick_answer first.ledger now) now first
    ∙ ap (λ (held : HeldRequest). held.ledger.next) (success_alone now held held.success).1

module _ (invite : Id) where
  -- if it is the request of this id, so many responses went out to it reliably
  abbrev pub HasSent : ℕ → HeldRequest → Type 0
  HasSent sent held = is_id held.id invite ≡ true → held.ledger.next ≡ sent + 1

  abbrev pub HaveSent : ℕ → List HeldRequest → Type 0
  HaveSent sent requests = AllByRecursion (HasSent sent) requests

  -- ---- the request of one id is changed

  -- a request of another id is not this one
  another : (sent : ℕ) (held : HeldRequest) → is_id held.id invite ≡ false → HasSent sent held
  another sent held other own = absurd (false≢true (sym other ∙ own))

  all_others : (sent : ℕ) (id : Id) → is_id id invite ≡ true → (requests : List HeldRequest)
      → AllByRecursion (λ other. is_id id other ≡ false) (ids_of requests)
      → HaveSent sent requests
  all_others sent id own [] apart = tt
  all_others sent id own (held ∷ requests) apart = (
    another sent held (id_laws.symm held.id invite ∙ sym (id_laws.congr id invite held.id own)
        ∙ apart.0),
    all_others sent id own requests apart.1,
  )

  module _ (k : Id) (change : HeldRequest → HeldRequest) (sent : ℕ) where
    -- if it is this one, then none of the others is
    pub own_changed : is_id k invite ≡ true → (held : HeldRequest)
        → (change held).ledger.next ≡ sent + 1 → (requests : List HeldRequest)
        → IsDistinct is_id (ids_of requests) → find (has_id k) requests ≡ Some held
        → HaveSent sent (changed_at k change requests)
    own_changed own held so [] apart at = tt
    own_changed own held so (one ∷ requests) apart at =
        by_first (is_id one.id k) refl at
        (own_changed own held so requests (IsDistinct-tail is_id one.id (ids_of requests) apart))
      where
        by_first : (b : Bool) → is_id one.id k ≡ b
            → cond b (Some one) (find (has_id k) requests) ≡ Some held
            → (find (has_id k) requests ≡ Some held
            → HaveSent sent (changed_at k change requests))
            → HaveSent sent (cond b (change one ∷ requests)
            (one ∷ changed_at k change requests))
        by_first true here is later =
            let same : one ≡ held = cc in (
              λ _. ap (λ (held : HeldRequest). (change held).ledger.next) same ∙ so,
              all_others sent one.id (id_laws.congr one.id k invite here ∙ own) requests
                  (IsDistinct-head is_id one.id (ids_of requests) apart),
            )
        by_first false past is later = (
          another sent one (id_laws.symm one.id invite ∙ sym (id_laws.congr k invite one.id own)
              ∙ id_laws.symm k one.id ∙ past),
          later is,
        )

    -- if it isn't, this one stays as it is
    pub other_changed : is_id k invite ≡ false
        → ((held : HeldRequest) → (change held).id ≡ held.id) → (requests : List HeldRequest)
        → HaveSent sent requests → HaveSent sent (changed_at k change requests)
    other_changed other keeps [] all = tt
    other_changed other keeps (one ∷ requests) all =
        by_first (is_id one.id k) refl (other_changed other keeps requests all.1)
      where
        by_first : (b : Bool) → is_id one.id k ≡ b → HaveSent sent (changed_at k change requests)
            → HaveSent sent (cond b (change one ∷ requests)
            (one ∷ changed_at k change requests))
        by_first true here later = (
          another sent (change one) (ap (λ id. is_id id invite) (keeps one)
              ∙ id_laws.congr one.id k invite here ∙ other),
          all.1,
        )
        by_first false past later = (all.0, later)

  -- ---- what comes up, and a tick

  module _ (sent : ℕ) where
    abbrev Kept : ServedTaken → Type 0
    Kept taken = HaveSent sent (taken.0).requests

    user_sent : (state : State) (call_id : List ℕ) (name : DialogId) (arrival : Arrival)
        → (is_id arrival.id invite ≡ true → sent ≡ 0) → HaveSent sent state.requests
        → Kept (request_for_user state call_id name arrival)
    user_sent state call_id name arrival new all =
        both (HasSent sent) state.requests _ all (λ own. ap (λ n. n + 1) (sym (new own)), tt)

    prack_sent : (state : State) (call_id : List ℕ) (name : DialogId) (created_by : Id)
        (arrival : Arrival) (rack : Option RAck) → HaveSent sent state.requests
        → Kept (prack_received state call_id name created_by arrival rack)
    prack_sent state call_id name created_by arrival None all = all
    prack_sent state call_id name created_by arrival (Some rack) all =
        found_or Kept (prack_for state call_id arrival rack)
        (find (is_named_by rack name created_by) state.requests) (no_such_call state arrival)
        (λ invite found. first_changed (HasSent sent) (has_id invite.id) (after_prack rack.rseq)
        (λ held so. so) state.requests all)
        (λ none. all)

    dialog_sent : (state : State) (call_id : List ℕ) (name : DialogId) (arrival : Arrival)
        (held_dialog : HeldDialog) → (is_id arrival.id invite ≡ true → sent ≡ 0)
        → HaveSent sent state.requests
        → Kept (request_in_dialog state call_id name arrival held_dialog)
    dialog_sent state call_id name arrival held_dialog new all =
        let request = arrival.request in
        let noted : State = record state {
          dialogs = dialog_changed name (after_request request) state.dialogs;
        } in
        either Kept (not (is_above held_dialog request.cseq.number)) _ _ (λ late. all)
        (λ above. either Kept (is_prack request) _ _
        (λ is. prack_sent noted call_id name held_dialog.created_by arrival request.rack all)
        (λ other. user_sent noted call_id name arrival new all))

    cancel_sent : (state : State) (call_id : List ℕ) (arrival : Arrival) (now : ℕ)
        → HaveSent sent state.requests → Kept (cancel_received state call_id arrival now)
    cancel_sent state call_id arrival now all =
        found_or Kept (cancel_for state call_id arrival now)
        (find (λ held. is_same_branch arrival.key held.key) (reverse state.requests))
        (no_such_call state arrival)
        (λ held found. either Kept (not (is_invite held.request && is_none held.removal)) _ _
        (λ late. all)
        (λ still. first_changed (HasSent sent) (has_id held.id) (after_487 now) (λ held so. so)
        state.requests all))
        (λ none. all)

    request_sent : (state : State) (call_id : List ℕ) (arrival : Arrival) (now : ℕ)
        → (is_id arrival.id invite ≡ true → sent ≡ 0) → HaveSent sent state.requests
        → Kept (request_received state call_id arrival now)
    unfolding request_received
    request_sent state call_id arrival now new all =
        let request = arrival.request in
        let name = dialog_id_of request arrival.tag in
        either Kept (is_cancel request) _ _ (λ is. cancel_sent state call_id arrival now all)
        (λ no_cancel. either Kept
        (not (has_to_tag request) && list_any (is_merged request) state.requests) _ _
        (λ twice. all)
        (λ once. either Kept (list_any is_unknown_option request.require) _ _ (λ unknown. all)
        (λ known. either Kept (has_to_tag request) _ _
        (λ tagged. found_or Kept (request_in_dialog state call_id name arrival)
        (dialog_at name state.dialogs) (no_such_call state arrival)
        (λ held found. dialog_sent state call_id name arrival held new all) (λ none. all))
        (λ untagged. either Kept (is_bye request || is_prack request) _ _ (λ odd. all)
        (λ plain. user_sent state call_id name arrival new all)))))

    -- a request that comes up is new
    pub arrival_sent : (state : State) (call_id : List ℕ) (arrival : Arrival) (now : ℕ)
        → (is_id arrival.id invite ≡ true → sent ≡ 0) → HaveSent sent state.requests
        → Kept (arrival_taken state call_id arrival now)
    arrival_sent state call_id arrival now new all =
        subst Kept (sym (arrival_same state call_id arrival now))
        (request_sent state call_id arrival now new all)

    pub ack_sent : (state : State) (call_id : List ℕ) (ack : Message)
        → HaveSent sent state.requests
        → Kept (ack_taken state call_id ack)
    ack_sent state call_id ack all = by_invite (acknowledged_invite ack state.requests)
      where
        by_invite : (o : Option Id)
            → Kept (ack_noted state call_id ack o)
        by_invite None = all
        by_invite (Some of) =
            first_changed (HasSent sent) (has_id of) (success_ended Acknowledged) (λ held so. so)
            state.requests all

    ticked_sent : (now : ℕ) (held : HeldRequest) → HasSent sent held
        → HasSent sent (request_ticked now held).0
    ticked_sent now held so own =
        ticked_next now held
        ∙ so (sym (ap (λ id. is_id id invite) (passed_id now held)) ∙ own)

    pub tick_sent : (state : State) (now : ℕ) → HaveSent sent state.requests
        → Kept (tick_taken state now)
    tick_sent state now all =
        filtered (HasSent sent) (is_kept_at now)
        (map (λ held. (request_ticked now held).0) state.requests)
        (mapped (HasSent sent) (HasSent sent) (λ held. (request_ticked now held).0)
        (ticked_sent now) state.requests all)
