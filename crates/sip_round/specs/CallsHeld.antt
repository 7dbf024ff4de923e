-- What is held of each call after whole rounds: its dialogs, each by its history; its requests,
-- each by its story, in the order of their ids; and the INVITEs that await their ACK (RFC 3261,
-- sections 12 and 13.3.1.4).
use Rattle.std.specs.Prelude.{◌≡◌, ℕ, ◌+◌, true, false, List, [], ◌∷◌, ◌++◌, Option, None, Some, filter_map, find, fold, length, map}
use Rattle.sip_message.specs.declared.cseq.CSeq.{CSeq}
use Rattle.sip_message.specs.declared.id.Id.{Id}
use Rattle.keyed_machine.specs.Machine.{Timed, tick_at}
use Rattle.keyed_machine.specs.Phase.{states_after}
use Rattle.sip_dialog.specs.declared.dialog.Dialog.{Dialog}
use Rattle.sip_dialog.specs.Life.{accepted_number, dialog_after, greater, routes_by, target_by}
use Rattle.sip_dialog.specs.Opening.{opened}
use Rattle.sip_transactions.specs.Ids.{IdsRise}
use Rattle.sip_held_dialogs.specs.declared.held_dialog.DialogId.{DialogId}
use Rattle.sip_held_dialogs.specs.declared.held_dialog.HeldDialog.{HeldDialog}
use Rattle.sip_held_dialogs.specs.Dialogs.{dialog_at, is_dialog_id}
use Rattle.sip_held_dialogs.specs.Sent.{NumberedAfter, NumberedFrom, cseqs_in, name_of_dialog, number_before}
use Rattle.sip_served.specs.declared.held_request.HeldRequest.{HeldRequest}
use Rattle.sip_served.specs.Acknowledgment.{awaits_ack}
use Rattle.sip_served.specs.Awaiting.{awaits_by}
use Rattle.sip_served.specs.State.{has_id}
use Rattle.sip_served.specs.Story.{request_of}
use Rattle.sip_served.specs.Unacknowledged.{awaited_by, awaited_rseqs, kept_rseqs, repeated_by, repeated_rseqs}
use Rattle.sip_calls.specs.declared.call.Call.{Call}
use Rattle.sip_calls.specs.Call.{CallItem, call_machine, call_step}
use Rattle.sip_calls.specs.CallShard.{call_cmp}
use Rattle.sip_calls.specs.HeldRequests.{read_from, requests_held}
use Rattle.sip_calls.specs.Histories.{History, call_from, history_of, opening_in}
use Rattle.sip_calls.specs.Owing.{owed_from}
use Rattle.sip_calls.specs.Provisionals.{side_held}
use Rattle.sip_calls.specs.RequestHistories.{stories_of}
use Rattle.sip_round.specs.declared.config.Config.{Config}
use Rattle.sip_round.specs.declared.round.Round.{Round}
use Rattle.sip_round.specs.Answers.{calls_of, past_of}
use Rattle.sip_round.specs.Laws.{call_inputs_of, said_of_call}

-- what an agent holds of a call after these rounds
abbrev pub call_after : Config → List Round → List ℕ → Option Call
call_after config rounds call_id =
    states_after call_cmp (call_machine (calls_of config)) tick_at (past_of config rounds).calls
    call_id

-- A dialog of a call, after rounds: what its opening and all that has happened in it since make of
-- it, held under the name of its tags. Its local CSeq is that of its opening, and one more for each
-- request that went out in it; each of these had the number after the one before it. Its remote
-- CSeq is the highest accepted one; its route set and its target are those that came last. What the
-- phases say to send in it ends with those requests.
pub record HasItsHistory (config : Config) (rounds : List Round) (call_id : List ℕ)
    (name : DialogId) (dialog : Dialog) : Type 0 where
  pub history : History
  pub of_its_inputs : history_of (calls_of config) name (call_inputs_of config rounds call_id)
      ≡ Some history
  pub value : dialog ≡ dialog_after history.opening history.life
  pub named : is_dialog_id name (name_of_dialog dialog) ≡ true
  pub local : dialog.local_cseq ≡ (opened history.opening).local_cseq + length history.sent
  pub numbers : NumberedAfter (opened history.opening).local_cseq history.sent
  pub said : (earlier : List CSeq)
      × (cseqs_in name (said_of_call config rounds call_id) ≡ earlier ++ history.sent)
  pub remote : dialog.remote_cseq
      ≡ fold greater (opened history.opening).remote_cseq
      (filter_map accepted_number history.life)
  pub route : dialog.route_set
      ≡ fold (routes_by (opened history.opening).side) (opened history.opening).route_set
      history.life
  pub target : dialog.target
      ≡ fold (target_by (opened history.opening).side) (opened history.opening).target history.life

-- every dialog that is held after these rounds
abbrev pub DialogsHaveTheirHistory : Config → List Round → Type 0
DialogsHaveTheirHistory config rounds = (call_id : List ℕ) (name : DialogId) (held : HeldDialog)
    → dialog_at name (side_held (call_after config rounds call_id)).dialogs ≡ Some held
    → HasItsHistory config rounds call_id name held.dialog

-- what each input of a call sends in a dialog that is held, or that it opens, has the numbers after
-- its local CSeq; so has the BYE that ends it
abbrev pub InputsNumberOn : Config → List Round → Type 0
InputsNumberOn config rounds =
    (call_id : List ℕ) (before after : List (Timed CallItem)) (input : Timed CallItem)
    → call_inputs_of config rounds call_id ≡ before ++ (input ∷ after) → (name : DialogId)
    → let call = call_from (calls_of config) None before in
    NumberedFrom
    (number_before (opening_in call input.input) (dialog_at name (side_held call).dialogs))
    (cseqs_in name (call_step (calls_of config) call input.input input.moment).1)

-- in any rounds: the held requests are in the order of their ids
abbrev pub EachRequestHeldById : Type 0
EachRequestHeldById = (config : Config) (rounds : List Round) (call_id : List ℕ)
    → IdsRise (map (λ held. held.id) (requests_held (call_after config rounds call_id)))

-- and each of them is what its story over the inputs of its call says
abbrev pub EachRequestHasItsStory : Type 0
EachRequestHasItsStory = (config : Config) (rounds : List Round) (call_id : List ℕ)
    → requests_held (call_after config rounds call_id)
    ≡ map request_of (stories_of (calls_of config) (call_inputs_of config rounds call_id))

-- an INVITE that is held after these rounds awaits its ACK if a 2xx to it went out, and the user
-- has been told since neither of its ACK nor that none came
abbrev pub InvitesAwaitAsTold : Config → List Round → Type 0
InvitesAwaitAsTold config rounds = (call_id : List ℕ) (invite : Id) (held : HeldRequest)
    → find (has_id invite) (requests_held (call_after config rounds call_id)) ≡ Some held
    → awaits_ack held
    ≡ read_from (awaits_by invite) false (calls_of config) invite None false
    (call_inputs_of config rounds call_id)

-- in any rounds
abbrev pub EachInviteAwaitsAsTold : Type 0
EachInviteAwaitsAsTold = (config : Config) (rounds : List Round) → InvitesAwaitAsTold config rounds

-- a dialog that is held after these rounds owes the ACKs and PRACKs that were asked for since it
-- was made and haven't gone out
abbrev pub DialogsOweAsTold : Config → List Round → Type 0
DialogsOweAsTold config rounds = (call_id : List ℕ) (name : DialogId) (held : HeldDialog)
    → dialog_at name (side_held (call_after config rounds call_id)).dialogs ≡ Some held
    → held.pending_requests
    ≡ owed_from (calls_of config) name None [] (call_inputs_of config rounds call_id)

-- in any rounds
abbrev pub EachDialogOwesAsTold : Type 0
EachDialogOwesAsTold = (config : Config) (rounds : List Round) → DialogsOweAsTold config rounds

-- The reliable provisional responses to an INVITE that is held after these rounds. Those that went
-- out with an RSeq, and whose PRACK the user hasn't been told of since, are kept and get a 200 to
-- their PRACK. They are sent again unless a final response went out, or the user was told that no
-- PRACK came, since they were sent.
pub record AwaitsItsPracks (config : Config) (rounds : List Round) (call_id : List ℕ)
    (invite : Id) (held : HeldRequest) : Type 0 where
  pub kept : kept_rseqs held ≡ read_from (awaited_by invite) [] (calls_of config) invite None []
      (call_inputs_of config rounds call_id)
  pub awaited : awaited_rseqs held ≡ read_from (awaited_by invite) [] (calls_of config) invite
      None [] (call_inputs_of config rounds call_id)
  pub repeated : repeated_rseqs held ≡ read_from (repeated_by invite) [] (calls_of config) invite
      None [] (call_inputs_of config rounds call_id)

-- for each INVITE in any rounds
abbrev pub EachResponseAwaitsAsTold : Type 0
EachResponseAwaitsAsTold = (config : Config) (rounds : List Round) (call_id : List ℕ) (invite : Id)
    (held : HeldRequest)
    → find (has_id invite) (requests_held (call_after config rounds call_id)) ≡ Some held
    → AwaitsItsPracks config rounds call_id invite held
