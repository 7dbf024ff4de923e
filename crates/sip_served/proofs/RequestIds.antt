-- The ids of the held requests: an item adds at most the id of the request that it brings.
use Rattle.std.proofs.Common.{◌≡◌, ◌⊎◌, inl, inr, ℕ, true, false, ◌&&◌, cond, List, [], ◌∷◌, ◌++◌, map, refl, sym, ap, subst, ◌∙◌}
use Rattle.std.specs.Prelude.{Option, None, Some, filter, find}
use Rattle.std.specs.List.{AllByRecursion, IsDistinct}
use Rattle.std.proofs.lemmas.List.{map-append}
use Rattle.std.proofs.lemmas.Map.Keys.{IsDistinct-cons, IsDistinct-head, IsDistinct-tail}
use Rattle.keyed_machine.proofs.Ordered.{by_bool}
use Rattle.sip_message.specs.declared.id.Id.{Id}
use Rattle.sip_message.specs.declared.message.Message.{Message}
use Rattle.sip_user.specs.declared.command.Respond.{Respond as Answer}
use Rattle.sip_held_dialogs.specs.declared.held_dialog.DialogId.{DialogId}
use Rattle.sip_user.specs.declared.refusal.Refusal.{Refusal}
use Rattle.sip_held_dialogs.specs.Dialogs.{ended_at}
use Rattle.sip_held_dialogs.specs.Ids.{is_id}
use Rattle.sip_held_dialogs.specs.Requests.{dialog_id_of, is_bye, is_cancel, has_to_tag}
use Rattle.sip_served.specs.declared.arrival.Arrival.{Arrival}
use Rattle.sip_served.specs.declared.arrival.ArrivalCase.{ArrivalCase}
use Rattle.sip_served.specs.declared.arrival.ArrivalCase.TheVariants.{Merged, BadExtension, NoDialog, OutOfOrder, Acknowledges, AcknowledgesNothing, ForUser}
use Rattle.sip_served.specs.declared.held_request.HeldRequest.{HeldRequest}
use Rattle.sip_served.specs.Acknowledgment.{ack_noted, ack_taken, acknowledged_invite, success_ended}
use Rattle.sip_served.specs.declared.held_request.SuccessEnd.TheVariants.{Acknowledged}
use Rattle.sip_served.specs.Arrival.{by_case, case_of, noted, pracked, request_held}
use Rattle.sip_served.specs.Cancel.{by_cancelled, cancelled_request, is_unanswered_invite, request_terminated}
use Rattle.sip_served.specs.Respond.{by_refusal, by_request, finished, refusal_for, respond_taken}
use Rattle.sip_served.specs.State.{State, changed_at, has_id}
use Rattle.sip_served.specs.Step.{arrival_taken}
use Rattle.sip_served.specs.Tick.{is_kept_at, request_ticked}
use Rattle.sip_served.proofs.Found.{bye_requests, change, keeps, noted_requests, passed_id}

abbrev pub ids_of : List HeldRequest → List Id
ids_of requests = map (λ held. held.id) requests

changed_ids : (k : Id) (change : HeldRequest → HeldRequest)
    → ((held : HeldRequest) → (change held).id ≡ held.id) → (requests : List HeldRequest)
    → ids_of (changed_at k change requests) ≡ ids_of requests
changed_ids k change keeps [] = refl
changed_ids k change keeps (held ∷ requests) =
    elim (is_id held.id k) as (λ b. ids_of (cond b (change held ∷ requests)
    (held ∷ changed_at k change requests)) ≡ ids_of (held ∷ requests)) [
      | true ↦ ap (λ id. id ∷ ids_of requests) (keeps held)
      | false ↦ ap (λ ids. held.id ∷ ids) (changed_ids k change keeps requests)
    ]

-- as before, or with this one
abbrev pub Adds : Id → List HeldRequest → List HeldRequest → Type 0
Adds id before after =
    (ids_of after ≡ ids_of before) ⊎ (ids_of after ≡ ids_of before ++ id ∷ [])

case_adds : (case : ArrivalCase) (state : State) (call_id : List ℕ) (name : DialogId)
    (arrival : Arrival)
    → Adds arrival.id state.requests ((by_case case state call_id name arrival).0).requests
case_adds Merged state call_id name arrival = inl refl
case_adds BadExtension state call_id name arrival = inl refl
case_adds NoDialog state call_id name arrival = inl refl
case_adds OutOfOrder state call_id name arrival = inl refl
case_adds (Acknowledges of rseq) state call_id name arrival =
    inl (changed_ids of (pracked rseq) (λ held. refl) (noted state name arrival.request).requests
    ∙ ap ids_of (noted_requests state name arrival.request))
case_adds AcknowledgesNothing state call_id name arrival =
    inl (ap ids_of (noted_requests state name arrival.request))
case_adds ForUser state call_id name arrival =
    let before = noted state name arrival.request in
    let held = (request_held before call_id name arrival).0 in
    inr (ap ids_of (bye_requests (has_to_tag arrival.request && is_bye arrival.request) held
    (ended_at name held.dialogs).0 (ended_at name held.dialogs).1)
    ∙ map-append (λ (held : HeldRequest). held.id) before.requests _
    ∙ ap (λ requests. ids_of requests ++ arrival.id ∷ [])
    (noted_requests state name arrival.request))

cancel_adds : (state : State) (call_id : List ℕ) (arrival : Arrival) (now : ℕ)
    (o : Option HeldRequest)
    → Adds arrival.id state.requests ((by_cancelled state call_id arrival now o).0).requests
cancel_adds state call_id arrival now None = inl refl
cancel_adds state call_id arrival now (Some held) =
    by_bool (is_unanswered_invite held)
    (λ e. rw e (inl (changed_ids held.id (finished (request_terminated held) 487 now) (λ held. refl)
    state.requests)))
    (λ e. rw e (inl refl))

pub arrival_adds : (state : State) (call_id : List ℕ) (arrival : Arrival) (now : ℕ)
    → Adds arrival.id state.requests ((arrival_taken state call_id arrival now).0).requests
arrival_adds state call_id arrival now =
    let name = dialog_id_of arrival.request arrival.tag in
    by_bool (is_cancel arrival.request)
    (λ e. rw e (cancel_adds state call_id arrival now
    (cancelled_request arrival.key state.requests)))
    (λ e. rw e (case_adds (case_of state.requests state.dialogs name arrival.request) state call_id
    name arrival))

pub ack_ids : (state : State) (call_id : List ℕ) (ack : Message)
    → ids_of ((ack_taken state call_id ack).0).requests ≡ ids_of state.requests
ack_ids state call_id ack = by_invite (acknowledged_invite ack state.requests)
  where
    by_invite : (o : Option Id)
        → ids_of ((ack_noted state call_id ack o).0).requests ≡ ids_of state.requests
    by_invite None = refl
    by_invite (Some of) =
        changed_ids of (success_ended Acknowledged) (λ held. refl) state.requests

module _ (state : State) (event : Id) (r : Answer) (now : ℕ) where
  by_reason : (held : HeldRequest) (o : Option Refusal)
      → ids_of ((by_refusal state event r now held o).0).requests ≡ ids_of state.requests
  by_reason held (Some refusal) = refl
  by_reason held None =
      changed_ids r.id (change state event r now held) (keeps state event r now held) state.requests

  by_held : (o : Option HeldRequest)
      → ids_of ((by_request state event r now o).0).requests ≡ ids_of state.requests
  by_held None = refl
  by_held (Some held) = by_reason held (refusal_for state.dialogs r held)

  pub respond_ids : ids_of ((respond_taken state event r now).0).requests ≡ ids_of state.requests
  respond_ids = by_held (find (has_id r.id) state.requests)

-- ---- a tick leaves some of them

module _ (now : ℕ) where
  abbrev kept : List HeldRequest → List HeldRequest
  kept requests = filter (is_kept_at now) (map (λ held. (request_ticked now held).0) requests)

  pub all_left : (P : Id → Type 0) (requests : List HeldRequest)
      → AllByRecursion P (ids_of requests) → AllByRecursion P (ids_of (kept requests))
  all_left P [] all = tt
  all_left P (held ∷ requests) all =
      let passed = (request_ticked now held).0 in
      elim (is_kept_at now passed) as (λ b. AllByRecursion P (ids_of (cond b
      (passed ∷ kept requests) (kept requests)))) [
        | true ↦ (subst P (sym (passed_id now held)) all.0, all_left P requests all.1)
        | false ↦ all_left P requests all.1
      ]

  pub apart_left : (requests : List HeldRequest) → IsDistinct is_id (ids_of requests)
      → IsDistinct is_id (ids_of (kept requests))
  apart_left [] apart = apart
  apart_left (held ∷ requests) apart =
      let passed = (request_ticked now held).0 in
      let rest = apart_left requests (IsDistinct-tail is_id held.id (ids_of requests) apart) in
      elim (is_kept_at now passed) as (λ b. IsDistinct is_id (ids_of (cond b
      (passed ∷ kept requests) (kept requests)))) [
        | true ↦ subst (λ id. IsDistinct is_id (id ∷ ids_of (kept requests)))
            (sym (passed_id now held))
            (IsDistinct-cons is_id held.id (ids_of (kept requests))
            (all_left (λ id. is_id held.id id ≡ false) requests
            (IsDistinct-head is_id held.id (ids_of requests) apart)) rest)
        | false ↦ rest
      ]
