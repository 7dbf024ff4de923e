-- The server side doesn't change what is owed in a dialog; in one that it makes nothing is owed.
use Rattle.std.proofs.Common.{◌≡◌, ℕ, inl, inr, Bool, true, false, not, ◌&&◌, cond, List, [], refl, sym, subst}
use Rattle.std.specs.Prelude.{Option, None, Some, find, if◌then◌else◌}
use Rattle.indexmap.specs.IndexMap.{insert_entry}
use Rattle.keyed_machine.proofs.Ordered.{by_bool}
use Rattle.sip_message.specs.declared.addr.Addr.{Addr}
use Rattle.sip_message.specs.declared.id.Id.{Id}
use Rattle.sip_message.specs.declared.message.Message.{Message}
use Rattle.sip_transactions.specs.declared.output.UpKind.TheVariants.{Request}
use Rattle.sip_transactions.specs.declared.output.Up.{Up}
use Rattle.sip_user.specs.declared.command.Respond.{Respond as Answer}
use Rattle.sip_held_dialogs.specs.declared.held_dialog.DialogId.{DialogId}
use Rattle.sip_held_dialogs.specs.declared.held_dialog.HeldDialog.{HeldDialog}
use Rattle.sip_user.specs.declared.item.CallOut.{CallOut}
use Rattle.sip_user.specs.declared.refusal.Refusal.{Refusal}
use Rattle.sip_held_dialogs.specs.Dialogs.{Dialogs, confirmed, dialog_at, dialog_changed, early_ended, ended_at, is_early_of, is_dialog_id, visited}
use Rattle.sip_held_dialogs.specs.Requests.{dialog_id_of, is_bye, is_cancel, has_to_tag}
use Rattle.sip_held_dialogs.proofs.Entries as entries
use Rattle.sip_held_dialogs.proofs.Heard.{AreApart, name_laws}
use Rattle.sip_served.specs.declared.arrival.Arrival.{Arrival}
use Rattle.sip_served.specs.declared.arrival.ArrivalCase.{ArrivalCase}
use Rattle.sip_served.specs.declared.arrival.ArrivalCase.TheVariants.{Merged, BadExtension, NoDialog, OutOfOrder, Acknowledges, AcknowledgesNothing, ForUser}
use Rattle.sip_served.specs.declared.held_request.HeldRequest.{HeldRequest}
use Rattle.sip_served.specs.Acknowledgment.{ack_noted, ack_taken, acknowledged_invite}
use Rattle.sip_served.specs.Arrival.{arrival_of, by_case, bye_taken, case_of, noted, request_held}
use Rattle.sip_served.specs.Cancel.{by_cancelled, cancelled_request, is_unanswered_invite}
use Rattle.sip_served.specs.Respond.{answer_to, by_refusal, by_request, confirms_dialog, made_dialog, makes_dialog, refusal_for, rejects, respond_taken}
use Rattle.sip_served.specs.State.{State, ServedTaken, has_id}
use Rattle.sip_served.specs.Step.{arrival_taken, kind_taken}
use Rattle.sip_held_dialogs.proofs.Owing.{OweSame, Owes, changed_same, filtered_same, removed_same, same_owed, same_then, still_same, unchanged}

-- ---- a request that comes up, and an ACK

noted_apart : (state : State) (name : DialogId) (request : Message) → AreApart state.dialogs
    → AreApart (noted state name request).dialogs
noted_apart state name request apart =
    elim (has_to_tag request) as (λ b. AreApart (if b
    then record state { dialogs = dialog_changed name (visited request) state.dialogs }
    else state).dialogs) [
      | true ↦ entries.apart_changed name_laws name (visited request) state.dialogs
          (dialog_at name state.dialogs) apart
      | false ↦ apart
    ]

noted_same : (state : State) (name : DialogId) (request : Message)
    → OweSame state.dialogs (noted state name request).dialogs
noted_same state name request =
    elim (has_to_tag request) as (λ b. OweSame state.dialogs (if b
    then record state { dialogs = dialog_changed name (visited request) state.dialogs }
    else state).dialogs) [
      | true ↦ changed_same name (visited request) (λ held. (refl, refl)) state.dialogs
      | false ↦ same_owed state.dialogs
    ]

bye_same : (b : Bool) (state : State) (name : DialogId) (outs : List CallOut)
    → AreApart state.dialogs
    → OweSame state.dialogs ((cond {A = ServedTaken} b
    (record state { dialogs = (ended_at name state.dialogs).0 }, outs) (state, [])).0).dialogs
bye_same true state name outs apart = removed_same name state.dialogs apart
bye_same false state name outs apart = same_owed state.dialogs

case_same : (case : ArrivalCase) (state : State) (call_id : List ℕ) (name : DialogId)
    (arrival : Arrival) → AreApart state.dialogs
    → OweSame state.dialogs ((by_case case state call_id name arrival).0).dialogs
case_same Merged state call_id name arrival apart = same_owed state.dialogs
case_same BadExtension state call_id name arrival apart = same_owed state.dialogs
case_same NoDialog state call_id name arrival apart = same_owed state.dialogs
case_same OutOfOrder state call_id name arrival apart = same_owed state.dialogs
case_same (Acknowledges invite rseq) state call_id name arrival apart =
    noted_same state name arrival.request
case_same AcknowledgesNothing state call_id name arrival apart =
    noted_same state name arrival.request
case_same ForUser state call_id name arrival apart =
    let before = noted state name arrival.request in
    let held = (request_held before call_id name arrival).0 in
    same_then state.dialogs before.dialogs ((bye_taken arrival.request name held).0).dialogs
    (noted_same state name arrival.request)
    (bye_same (has_to_tag arrival.request && is_bye arrival.request) held name
    (ended_at name held.dialogs).1 (noted_apart state name arrival.request apart))

cancel_same : (state : State) (call_id : List ℕ) (arrival : Arrival) (now : ℕ)
    (o : Option HeldRequest) → AreApart state.dialogs
    → OweSame state.dialogs ((by_cancelled state call_id arrival now o).0).dialogs
cancel_same state call_id arrival now None apart = same_owed state.dialogs
cancel_same state call_id arrival now (Some held) apart =
    by_bool (is_unanswered_invite held)
    (λ e. rw e (filtered_same (λ dialog. not (is_early_of held.id dialog)) state.dialogs apart))
    (λ e. rw e (same_owed state.dialogs))

arrival_same : (state : State) (call_id : List ℕ) (arrival : Arrival) (now : ℕ)
    → AreApart state.dialogs
    → OweSame state.dialogs ((arrival_taken state call_id arrival now).0).dialogs
arrival_same state call_id arrival now apart =
    let name = dialog_id_of arrival.request arrival.tag in
    let case = case_of state.requests state.dialogs name arrival.request in
    by_bool (is_cancel arrival.request)
    (λ e. rw e (cancel_same state call_id arrival now
    (cancelled_request arrival.key state.requests) apart))
    (λ e. rw e (case_same case state call_id name arrival apart))

pub request_same : (state : State) (tag : List ℕ) (up : Up) (request : Message) (reply_to : Addr)
    (now : ℕ) → AreApart state.dialogs
    → OweSame state.dialogs ((kind_taken state tag up (Request request reply_to) now).0).dialogs
request_same state tag up request reply_to now apart =
    arrival_same state up.call_id (arrival_of up request reply_to tag) now apart

pub ack_same : (state : State) (call_id : List ℕ) (ack : Message)
    → OweSame state.dialogs ((ack_taken state call_id ack).0).dialogs
ack_same state call_id ack = by_invite (acknowledged_invite ack state.requests)
  where
    by_invite : (o : Option Id)
        → OweSame state.dialogs ((ack_noted state call_id ack o).0).dialogs
    by_invite None = same_owed state.dialogs
    by_invite (Some invite) = same_owed state.dialogs

-- ---- an answer of the user

module _ (event : Id) where
  abbrev Owe : Dialogs → Dialogs → Type 0
  Owe before after = (name : DialogId)
      → Owes (Some event) unchanged (dialog_at name before) (dialog_at name after)

  made_owes : (own : DialogId) (held : HeldDialog) → held.created_by ≡ event → held.pending_requests
      ≡ []
      → (dialogs : Dialogs) → Owe dialogs (insert_entry is_dialog_id dialogs own held)
  made_owes own held created_by none dialogs name =
      subst (Owes (Some event) unchanged (dialog_at name dialogs))
      (sym (entries.found_inserted name_laws own name held dialogs))
      (by_name (is_dialog_id own name))
    where
      by_name : (b : Bool) → Owes (Some event) unchanged (dialog_at name dialogs)
          (cond b (Some held) (dialog_at name dialogs))
      by_name true = inr (λ i. Some (sym created_by i), none)
      by_name false = inl (still_same (dialog_at name dialogs))

  dialogs_owe : (request : HeldRequest) (status : ℕ) (response : Message) (dialogs : Dialogs)
      (fresh success rejected : Bool) → AreApart dialogs
      → let name = dialog_id_of request.request request.tag in
      Owe dialogs (cond {A = Dialogs × List CallOut} fresh
      (insert_entry is_dialog_id dialogs name (made_dialog event request status), [])
      (cond success (dialog_changed name (confirmed response) dialogs, [])
      (cond rejected (early_ended request.id dialogs) (dialogs, [])))).0
  dialogs_owe request status response dialogs true success rejected apart name =
      made_owes (dialog_id_of request.request request.tag) (made_dialog event request status) refl
      refl dialogs name
  dialogs_owe request status response dialogs false true rejected apart name =
      inl (changed_same (dialog_id_of request.request request.tag) (confirmed response)
      (λ held. (refl, refl)) dialogs name)
  dialogs_owe request status response dialogs false false true apart name =
      inl (filtered_same (λ dialog. not (is_early_of request.id dialog)) dialogs apart name)
  dialogs_owe request status response dialogs false false false apart name =
      inl (same_owed dialogs name)

  module _ (state : State) (r : Answer) (now : ℕ) (apart : AreApart state.dialogs) where
    by_reason : (request : HeldRequest) (o : Option Refusal)
        → Owe state.dialogs ((by_refusal state event r now request o).0).dialogs
    by_reason request (Some refusal) name = inl (same_owed state.dialogs name)
    by_reason request None name =
        dialogs_owe request r.status (answer_to state.local request r) state.dialogs
        (makes_dialog request r.status) (confirms_dialog request r.status)
        (rejects request r.status) apart name

    by_held : (o : Option HeldRequest)
        → Owe state.dialogs ((by_request state event r now o).0).dialogs
    by_held None name = inl (same_owed state.dialogs name)
    by_held (Some request) name = by_reason request (refusal_for state.dialogs r request) name

    pub respond_owes : Owe state.dialogs ((respond_taken state event r now).0).dialogs
    respond_owes = by_held (find (has_id r.id) state.requests)
