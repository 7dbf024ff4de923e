-- The server side of a call starts no client transaction: all its commands are answers.
use Rattle.std.proofs.Common.{◌≡◌, ℕ, Bool, true, false, ◌&&◌, cond, List, [], ◌∷◌, map, refl}
use Rattle.std.specs.Prelude.{Option, None, Some, find}
use Rattle.indexmap.specs.IndexMap.{insert_entry}
use Rattle.keyed_machine.proofs.Ordered.{by_bool}
use Rattle.sip_message.specs.declared.id.Id.{Id}
use Rattle.sip_message.specs.declared.message.Message.{Message}
use Rattle.sip_reliable.specs.declared.tick.Tick.{Tick}
use Rattle.sip_reliable.specs.declared.tick.Tick.TheVariants as tick
use Rattle.sip_reliable.specs.Ledger.{tick_answer}
use Rattle.sip_transactions.specs.declared.input.Command.TheVariants as order
use Rattle.sip_transactions.specs.declared.output.UpKind.{UpKind}
use Rattle.sip_transactions.specs.declared.output.UpKind.TheVariants.{Request, Ack, Response, Timeout, Failed}
use Rattle.sip_transactions.specs.declared.output.Up.{Up}
use Rattle.sip_held_dialogs.proofs.Starts.{early_starts, ended_starts, none_of_all, none_of_both, starts}
use Rattle.sip_served.specs.declared.arrival.Arrival.{Arrival}
use Rattle.sip_served.specs.declared.arrival.ArrivalCase.{ArrivalCase}
use Rattle.sip_served.specs.declared.arrival.ArrivalCase.TheVariants.{Merged, BadExtension, NoDialog, OutOfOrder, Acknowledges, AcknowledgesNothing, ForUser}
use Rattle.sip_user.specs.declared.command.Respond.{Respond as Answer}
use Rattle.sip_held_dialogs.specs.declared.held_dialog.DialogId.{DialogId}
use Rattle.sip_served.specs.declared.held_request.HeldRequest.{HeldRequest}
use Rattle.sip_served.specs.declared.held_request.Success.{Success}
use Rattle.sip_user.specs.declared.item.CallOut.{CallOut}
use Rattle.sip_user.specs.declared.item.CallOut.TheVariants as out
use Rattle.sip_served.specs.declared.provisionals.ReliableResponse.{ReliableResponse}
use Rattle.sip_user.specs.declared.refusal.Refusal.{Refusal}
use Rattle.sip_served.specs.declared.retransmissions.SuccessDue.{SuccessDue}
use Rattle.sip_served.specs.declared.retransmissions.SuccessDue.TheVariants as repeat
use Rattle.sip_served.specs.Provisionals.{of_numbers}
use Rattle.sip_served.specs.Acknowledgment.{ack_noted, acknowledged_invite}
use Rattle.sip_served.specs.Arrival.{arrival_of, by_case, case_of, noted, request_held}
use Rattle.sip_served.specs.Cancel.{by_cancelled, cancelled_request, is_unanswered_invite}
use Rattle.sip_held_dialogs.specs.Dialogs.{confirmed, dialog_changed, early_ended, ended_at, is_dialog_id, Dialogs}
use Rattle.sip_held_dialogs.specs.Requests.{dialog_id_of, is_bye, is_cancel, has_to_tag}
use Rattle.sip_served.specs.Respond.{answer_to, by_refusal, by_request, confirms_dialog, made_dialog, makes_dialog, refusal_for, rejects, respond_taken}
use Rattle.sip_served.specs.State.{State, ServedTaken, has_id}
use Rattle.sip_served.specs.Step.{arrival_taken, kind_taken}
use Rattle.sip_served.specs.Tick.{provisionals_ticked, provisionals_told, request_ticked, success_answer, success_at_tick, success_ticked, success_told, tick_taken}

-- ---- what comes up

bye_starts : (b : Bool) (state : State) (outs : List CallOut) (after : State) → starts outs ≡ []
    → starts (cond {A = ServedTaken} b (after, outs) (state, [])).1 ≡ []
bye_starts true state outs after none = none
bye_starts false state outs after none = refl

case_starts : (case : ArrivalCase) (state : State) (call_id : List ℕ) (name : DialogId)
    (arrival : Arrival) → starts (by_case case state call_id name arrival).1 ≡ []
case_starts Merged state call_id name arrival = refl
case_starts BadExtension state call_id name arrival = refl
case_starts NoDialog state call_id name arrival = refl
case_starts OutOfOrder state call_id name arrival = refl
case_starts (Acknowledges invite rseq) state call_id name arrival = refl
case_starts AcknowledgesNothing state call_id name arrival = refl
case_starts ForUser state call_id name arrival =
    let before = (request_held (noted state name arrival.request) call_id name arrival).0 in
    bye_starts (has_to_tag arrival.request && is_bye arrival.request) before
    (ended_at name before.dialogs).1
    (record before { dialogs = (ended_at name before.dialogs).0 })
    (ended_starts name before.dialogs)

cancel_starts : (state : State) (call_id : List ℕ) (arrival : Arrival) (now : ℕ)
    (o : Option HeldRequest) → starts (by_cancelled state call_id arrival now o).1 ≡ []
cancel_starts state call_id arrival now None = refl
cancel_starts state call_id arrival now (Some held) =
    by_bool (is_unanswered_invite held) (λ e. rw e (early_starts held.id state.dialogs))
    (λ e. rw e refl)

arrival_starts : (state : State) (call_id : List ℕ) (arrival : Arrival) (now : ℕ)
    → starts (arrival_taken state call_id arrival now).1 ≡ []
arrival_starts state call_id arrival now =
    let name = dialog_id_of arrival.request arrival.tag in
    by_bool (is_cancel arrival.request)
    (λ e. rw e (cancel_starts state call_id arrival now
    (cancelled_request arrival.key state.requests)))
    (λ e. rw e (case_starts (case_of state.requests state.dialogs name arrival.request) state
    call_id name arrival))

pub kind_starts : (state : State) (tag : List ℕ) (up : Up) (kind : UpKind) (now : ℕ)
    → starts (kind_taken state tag up kind now).1 ≡ []
kind_starts state tag up (Request request reply_to) now =
    arrival_starts state up.call_id (arrival_of up request reply_to tag) now
kind_starts state tag up (Ack ack) now = by_invite (acknowledged_invite ack state.requests)
  where
    by_invite : (o : Option Id) → starts (ack_noted state up.call_id ack o).1 ≡ []
    by_invite None = refl
    by_invite (Some invite) = refl
kind_starts state tag up (Response response) now = refl
kind_starts state tag up Timeout now = refl
kind_starts state tag up Failed now = refl

-- ---- an answer of the user

dialogs_start : (fresh success rejected : Bool) (one two three : Dialogs) (invite : Id)
    (dialogs : Dialogs)
    → starts (cond {A = Dialogs × List CallOut} fresh (one, [])
    (cond success (two, []) (cond rejected (early_ended invite dialogs) (three, [])))).1 ≡ []
dialogs_start true success rejected one two three invite dialogs = refl
dialogs_start false true rejected one two three invite dialogs = refl
dialogs_start false false true one two three invite dialogs = early_starts invite dialogs
dialogs_start false false false one two three invite dialogs = refl

refusal_starts : (state : State) (event : Id) (r : Answer) (now : ℕ) (held : HeldRequest)
    (o : Option Refusal) → starts (by_refusal state event r now held o).1 ≡ []
refusal_starts state event r now held (Some refusal) = refl
refusal_starts state event r now held None =
    dialogs_start (makes_dialog held r.status) (confirms_dialog held r.status)
    (rejects held r.status)
    (insert_entry is_dialog_id state.dialogs (dialog_id_of held.request held.tag)
    (made_dialog event held r.status))
    (dialog_changed (dialog_id_of held.request held.tag)
    (confirmed (answer_to state.local held r)) state.dialogs) state.dialogs held.id
    state.dialogs

request_starts : (state : State) (event : Id) (r : Answer) (now : ℕ) (o : Option HeldRequest)
    → starts (by_request state event r now o).1 ≡ []
request_starts state event r now None = refl
request_starts state event r now (Some held) =
    refusal_starts state event r now held (refusal_for state.dialogs r held)

pub respond_starts : (state : State) (event : Id) (r : Answer) (now : ℕ)
    → starts (respond_taken state event r now).1 ≡ []
respond_starts state event r now =
    request_starts state event r now (find (has_id r.id) state.requests)

-- ---- a tick

told_starts : (t : SuccessDue) (held : HeldRequest) (response : Message)
    → starts (success_told t held response) ≡ []
told_starts repeat.Nothing held response = refl
told_starts repeat.Again held response = refl
told_starts repeat.GivenUp held response = refl

success_starts : (now : ℕ) (held : HeldRequest) (o : Option Success)
    → starts (success_at_tick now held o).1 ≡ []
success_starts now held None = refl
success_starts now held (Some success) =
    told_starts (success_answer now success) held success.response

repeats_start : (held : HeldRequest) (responses : List ReliableResponse)
    → starts (map (λ one. out.Command held.id (order.Answer held.key one.response)) responses) ≡ []
repeats_start held [] = refl
repeats_start held (one ∷ responses) = repeats_start held responses

provisionals_start : (t : Tick) (held : HeldRequest) → starts (provisionals_told t held) ≡ []
provisionals_start tick.Nothing held = refl
provisionals_start (tick.Again numbers) held =
    repeats_start held (of_numbers numbers.items held.provisionals)
provisionals_start tick.GivenUp held = refl

ticked_starts : (now : ℕ) (held : HeldRequest) → starts (request_ticked now held).1 ≡ []
ticked_starts now held =
    let first = success_ticked now held in
    none_of_both first.1 (provisionals_ticked now first.0).1
    (success_starts now held held.success)
    (provisionals_start (tick_answer (first.0).ledger now) first.0)

pub tick_starts : (state : State) (now : ℕ) → starts (tick_taken state now).1 ≡ []
tick_starts state now =
    none_of_all (λ held. (request_ticked now held).1) (ticked_starts now) state.requests
