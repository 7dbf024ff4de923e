-- Few reliable provisional responses to each held request wait for their PRACK.
use Rattle.std.proofs.Common.{◌≡◌, ℕ, not, ◌==◌, List, [], ◌∷◌, map, refl, sym, subst}
use Rattle.std.specs.Prelude.{Option, None, Some, find, fold}
use Rattle.std.specs.List.{AllByRecursion}
use Rattle.keyed_machine.proofs.Ordered.{by_bool}
use Rattle.sip_message.specs.declared.addr.Addr.{Addr}
use Rattle.sip_message.specs.declared.id.Id.{Id}
use Rattle.sip_message.specs.declared.message.Message.{Message}
use Rattle.sip_reliable.specs.declared.send_fault.SendFault.{SendFault}
use Rattle.sip_reliable.specs.declared.tick.Tick.{Tick}
use Rattle.sip_reliable.specs.declared.tick.Tick.TheVariants as tick
use Rattle.sip_reliable.specs.Ledger.{FewWait, ok_unless, send_fault, tick_answer}
use Rattle.sip_reliable.specs.Sound.{IsSound}
use Rattle.sip_reliable.proofs.Sounds.{few_wait as few_by, free, sound_given_up, sound_kept, sound_new, sound_repeated, sound_sent}
use Rattle.sip_transactions.specs.declared.output.UpKind.{UpKind}
use Rattle.sip_transactions.specs.declared.output.UpKind.TheVariants.{Request, Ack, Response, Timeout, Failed}
use Rattle.sip_transactions.specs.declared.output.Up.{Up}
use Rattle.sip_served.specs.declared.arrival.Arrival.{Arrival}
use Rattle.sip_served.specs.declared.arrival.ArrivalCase.{ArrivalCase}
use Rattle.sip_served.specs.declared.arrival.ArrivalCase.TheVariants.{Merged, BadExtension, NoDialog, OutOfOrder, Acknowledges, AcknowledgesNothing, ForUser}
use Rattle.sip_user.specs.declared.command.Respond.{Respond as Answer}
use Rattle.sip_user.specs.declared.command.UserCommand.{UserCommand}
use Rattle.sip_user.specs.declared.command.UserCommand.TheVariants as command
use Rattle.sip_held_dialogs.specs.declared.held_dialog.DialogId.{DialogId}
use Rattle.sip_served.specs.declared.held_request.HeldRequest.{HeldRequest}
use Rattle.sip_served.specs.declared.held_request.Success.{Success}
use Rattle.sip_user.specs.declared.item.Item.TheVariants as item
use Rattle.sip_user.specs.declared.refusal.Refusal.{Refusal}
use Rattle.sip_served.specs.Acknowledgment.{ack_noted, acknowledged_invite, success_ended}
use Rattle.sip_served.specs.declared.held_request.SuccessEnd.TheVariants.{Acknowledged}
use Rattle.sip_served.specs.Arrival.{arrival_of, by_case, bye_taken, case_of, first_rseq, noted, pracked}
use Rattle.sip_served.specs.Cancel.{by_cancelled, cancelled_request, is_unanswered_invite, request_terminated}
use Rattle.sip_held_dialogs.specs.Requests.{dialog_id_of, is_bye, is_cancel, has_to_tag, is_final}
use Rattle.sip_served.specs.Respond.{after_answer, answered, by_refusal, by_request, finished, is_sent_reliably, makes_dialog, refusal_for, sent_as, with_dialog}
use Rattle.sip_served.specs.Run.{Event, Takes, Ticks, FewWaitEach, event_taken, server_state_after}
use Rattle.sip_served.specs.State.{State, empty_at, has_id}
use Rattle.sip_served.specs.Step.{arrival_taken, server_command_taken, kind_taken}
use Rattle.sip_served.specs.Tick.{is_kept_at, provisionals_by, request_ticked, success_at_tick, success_ticked}
use Rattle.sip_held_dialogs.proofs.Each as each
use Rattle.sip_served.proofs.FirstChanged.{first_changed}
use Rattle.sip_served.proofs.RequestLives.{success_alone}

-- ---- one request

-- what is true of the responses to it that wait
abbrev pub IsKept : HeldRequest → Type 0
IsKept held = IsSound held.ledger.first held.ledger.next held.ledger.waiting

abbrev pub IsKeptEach : State → Type 0
IsKeptEach state = AllByRecursion IsKept state.requests

sent_keeps : (o : Option SendFault) (response : Message) (now : ℕ) (held : HeldRequest)
    → send_fault held.ledger ≡ o → IsKept held
    → IsKept (sent_as (ok_unless o held.ledger.next) response now held)
sent_keeps None response now held is kept =
    sound_sent held.ledger.first held.ledger.next held.ledger.waiting _ refl
    (free held.ledger is).0 kept
sent_keeps (Some fault) response now held is kept = kept

answered_keeps : (r : Answer) (response : Message) (now : ℕ) (held : HeldRequest) → IsKept held
    → IsKept (answered r.status r.reliability response now held)
answered_keeps r response now held kept =
    by_bool (is_sent_reliably held r.status r.reliability)
    (λ e. rw e (sent_keeps (send_fault held.ledger) response now held refl kept))
    (λ e. by_bool (is_final r.status) (λ f. rw (e, f) kept) (λ f. rw (e, f) kept))

dialog_keeps : (event : Id) (r : Answer) (held : HeldRequest) → IsKept held
    → IsKept (with_dialog event r.status held)
dialog_keeps event r held kept =
    by_bool (makes_dialog held r.status) (λ e. rw e kept) (λ e. rw e kept)

pracked_keeps : (rseq : ℕ) (held : HeldRequest) → IsKept held → IsKept (pracked rseq held)
pracked_keeps rseq held kept =
    sound_kept held.ledger.first held.ledger.next (λ p. not (p.number == rseq))
    held.ledger.waiting kept

provisionals_keep : (t : Tick) (now : ℕ) (held : HeldRequest) → IsKept held
    → IsKept (provisionals_by t now held).0
provisionals_keep tick.Nothing now held kept = kept
provisionals_keep (tick.Again numbers) now held kept =
    sound_repeated held.ledger.first held.ledger.next now held.ledger.waiting kept
provisionals_keep tick.GivenUp now held kept =
    sound_given_up held.ledger.first held.ledger.next held.ledger.waiting kept

success_keeps : (now : ℕ) (held : HeldRequest) (o : Option Success) → IsKept held
    → IsKept (success_at_tick now held o).0
success_keeps now held o kept =
    subst (λ (held : HeldRequest). IsKept held) (sym (success_alone now held o).1) kept

request_keeps : (now : ℕ) (held : HeldRequest) → IsKept held
    → IsKept (request_ticked now held).0
request_keeps now held kept = let first = (success_ticked now held).0 in
    provisionals_keep (tick_answer first.ledger now) now first
    (success_keeps now held held.success kept)

-- ---- each case

noted_keeps : (state : State) (name : DialogId) (request : Message) → IsKeptEach state
    → IsKeptEach (noted state name request)
noted_keeps state name request all = by_bool (has_to_tag request) (λ e. rw e all) (λ e. rw e all)

bye_keeps : (request : Message) (name : DialogId) (state : State) → IsKeptEach state
    → IsKeptEach (bye_taken request name state).0
bye_keeps request name state all =
    by_bool (has_to_tag request)
    (λ e. by_bool (is_bye request) (λ f. rw (e, f) all) (λ f. rw (e, f) all))
    (λ e. rw e all)

case_keeps : (case : ArrivalCase) (state : State) (call_id : List ℕ) (name : DialogId)
    (arrival : Arrival) → IsKeptEach state
    → IsKeptEach (by_case case state call_id name arrival).0
case_keeps Merged state call_id name arrival all = all
case_keeps BadExtension state call_id name arrival all = all
case_keeps NoDialog state call_id name arrival all = all
case_keeps OutOfOrder state call_id name arrival all = all
case_keeps (Acknowledges invite rseq) state call_id name arrival all =
    first_changed IsKept (has_id invite) (pracked rseq) (pracked_keeps rseq)
    (noted state name arrival.request).requests (noted_keeps state name arrival.request all)
case_keeps AcknowledgesNothing state call_id name arrival all =
    noted_keeps state name arrival.request all
case_keeps ForUser state call_id name arrival all =
    bye_keeps arrival.request name _
    (each.both IsKept (noted state name arrival.request).requests _
    (noted_keeps state name arrival.request all) (sound_new first_rseq, tt))

cancel_keeps : (state : State) (call_id : List ℕ) (arrival : Arrival) (now : ℕ)
    (o : Option HeldRequest) → IsKeptEach state
    → IsKeptEach (by_cancelled state call_id arrival now o).0
cancel_keeps state call_id arrival now None all = all
cancel_keeps state call_id arrival now (Some held) all =
    by_bool (is_unanswered_invite held)
    (λ e. rw e (first_changed IsKept (has_id held.id) (finished (request_terminated held) 487 now)
    (λ one kept. kept) state.requests all))
    (λ e. rw e all)

arrival_keeps : (state : State) (call_id : List ℕ) (arrival : Arrival) (now : ℕ)
    → IsKeptEach state → IsKeptEach (arrival_taken state call_id arrival now).0
arrival_keeps state call_id arrival now all =
    let name = dialog_id_of arrival.request arrival.tag in
    by_bool (is_cancel arrival.request)
    (λ e. rw e (cancel_keeps state call_id arrival now
    (cancelled_request arrival.key state.requests) all))
    (λ e. rw e (case_keeps (case_of state.requests state.dialogs name arrival.request) state
    call_id name arrival all))

ack_keeps : (state : State) (call_id : List ℕ) (ack : Message) (o : Option Id) → IsKeptEach state
    → IsKeptEach (ack_noted state call_id ack o).0
ack_keeps state call_id ack None all = all
ack_keeps state call_id ack (Some invite) all =
    first_changed IsKept (has_id invite) (success_ended Acknowledged) (λ held one. one)
    state.requests all

refusal_keeps : (state : State) (event : Id) (r : Answer) (now : ℕ) (held : HeldRequest)
    (o : Option Refusal) → IsKeptEach state → IsKeptEach (by_refusal state event r now held o).0
refusal_keeps state event r now held (Some refusal) all = all
refusal_keeps state event r now held None all =
    first_changed IsKept (has_id r.id) (after_answer event r _ now)
    (λ held one. answered_keeps r _ now (with_dialog event r.status held)
    (dialog_keeps event r held one)) state.requests all

respond_keeps : (state : State) (event : Id) (r : Answer) (now : ℕ) (o : Option HeldRequest)
    → IsKeptEach state → IsKeptEach (by_request state event r now o).0
respond_keeps state event r now None all = all
respond_keeps state event r now (Some held) all =
    refusal_keeps state event r now held (refusal_for state.dialogs r held) all

kind_keeps : (state : State) (tag : List ℕ) (up : Up) (kind : UpKind) (now : ℕ)
    → IsKeptEach state → IsKeptEach (kind_taken state tag up kind now).0
kind_keeps state tag up (Request request reply_to) now all =
    arrival_keeps state up.call_id (arrival_of up request reply_to tag) now all
kind_keeps state tag up (Ack ack) now all =
    ack_keeps state up.call_id ack (acknowledged_invite ack state.requests) all
kind_keeps state tag up (Response response) now all = all
kind_keeps state tag up Timeout now all = all
kind_keeps state tag up Failed now all = all

command_keeps : (state : State) (id : Id) (c : UserCommand) (now : ℕ) → IsKeptEach state
    → IsKeptEach (server_command_taken state id c now).0
command_keeps state id (command.Invite i) now all = all
command_keeps state id (command.Plain i) now all = all
command_keeps state id (command.Request i) now all = all
command_keeps state id (command.Respond r) now all =
    respond_keeps state id r now (find (has_id r.id) state.requests) all
command_keeps state id (command.Ack i) now all = all
command_keeps state id (command.Prack i) now all = all
command_keeps state id (command.Cancel i) now all = all
command_keeps state id (command.AbandonRequest i) now all = all
command_keeps state id (command.AbandonDialog i) now all = all

pub event_keeps : (state : State) (event : Event) → IsKeptEach state
    → IsKeptEach (event_taken state event).0
event_keeps state (Takes tag id (item.Up up) now) all = kind_keeps state tag up up.kind now all
event_keeps state (Takes tag id (item.User c) now) all = command_keeps state id c now all
event_keeps state (Ticks now) all =
    each.filtered IsKept (is_kept_at now) (map (λ held. (request_ticked now held).0) state.requests)
    (each.mapped IsKept IsKept (λ held. (request_ticked now held).0) (request_keeps now)
    state.requests all)

from_keeps : (events : List Event) (state : State) → IsKeptEach state
    → IsKeptEach (fold (λ state event. (event_taken state event).0) state events)
from_keeps [] state all = all
from_keeps (event ∷ events) state all =
    from_keeps events (event_taken state event).0 (event_keeps state event all)

pub kept_after : (local : Addr) (events : List Event) → IsKeptEach (server_state_after local events)
kept_after local events = from_keeps events (empty_at local) tt

pub few_of : (requests : List HeldRequest) → AllByRecursion IsKept requests
    → AllByRecursion (λ held. FewWait held.ledger) requests
few_of [] all = tt
few_of (held ∷ requests) all = (few_by held.ledger all.0, few_of requests all.1)

pub few_wait : (local : Addr) (events : List Event) → FewWaitEach (server_state_after local events)
few_wait local events = few_of (server_state_after local events).requests (kept_after local events)
