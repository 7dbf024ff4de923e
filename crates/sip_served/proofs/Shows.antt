-- Each request that comes up for the user is told once, as it comes up.
use Rattle.std.proofs.Common.{◌≡◌, ℕ, ◌+◌, ◌≤◌, Bool, true, false, cond, ◌&&◌, List, [], ◌∷◌, ◌++◌, map, length, refl, sym, ap, subst, arith}
use Rattle.std.specs.Prelude.{Option, None, Some, count_by, find, filter}
use Rattle.std.specs.List.{flat_map}
use Rattle.std.proofs.lemmas.List.Sums.{length-filter}
use Rattle.keyed_machine.proofs.Ordered.{by_bool}
use Rattle.sip_message.specs.declared.id.Id.{Id}
use Rattle.sip_message.specs.declared.message.Message.{Message}
use Rattle.sip_reliable.specs.declared.tick.Tick.{Tick}
use Rattle.sip_reliable.specs.declared.tick.Tick.TheVariants as tick
use Rattle.sip_reliable.specs.Ledger.{tick_answer}
use Rattle.sip_transactions.specs.declared.input.Command.TheVariants.{Answer as ByAnswer}
use Rattle.sip_transactions.specs.declared.output.UpKind.{UpKind}
use Rattle.sip_transactions.specs.declared.output.UpKind.TheVariants.{Request, Ack, Response, Timeout, Failed}
use Rattle.sip_transactions.specs.declared.output.Up.{Up}
use Rattle.sip_held_dialogs.proofs.ToldRequests.{early_shown, end_shown, none_of_both, reported}
use Rattle.sip_served.specs.declared.arrival.Arrival.{Arrival}
use Rattle.sip_served.specs.declared.arrival.ArrivalCase.{ArrivalCase}
use Rattle.sip_served.specs.declared.arrival.ArrivalCase.TheVariants.{Merged, BadExtension, NoDialog, OutOfOrder, Acknowledges, AcknowledgesNothing, ForUser}
use Rattle.sip_user.specs.declared.command.Respond.{Respond as Answer}
use Rattle.sip_user.specs.declared.command.UserCommand.{UserCommand}
use Rattle.sip_user.specs.declared.command.UserCommand.TheVariants as command
use Rattle.sip_held_dialogs.specs.declared.held_dialog.DialogId.{DialogId}
use Rattle.sip_served.specs.declared.held_request.HeldRequest.{HeldRequest}
use Rattle.sip_served.specs.declared.held_request.Success.{Success}
use Rattle.sip_user.specs.declared.item.CallOut.TheVariants.{Command}
use Rattle.sip_user.specs.declared.item.Item.TheVariants as item
use Rattle.sip_served.specs.declared.provisionals.ReliableResponse.{ReliableResponse}
use Rattle.sip_user.specs.declared.refusal.Refusal.{Refusal}
use Rattle.sip_served.specs.declared.retransmissions.SuccessDue.{SuccessDue}
use Rattle.sip_served.specs.declared.retransmissions.SuccessDue.TheVariants as repeat
use Rattle.sip_served.specs.Acknowledgment.{ack_noted, acknowledged_invite}
use Rattle.sip_served.specs.Arrival.{arrival_of, by_case, bye_taken, case_of}
use Rattle.sip_served.specs.Cancel.{by_cancelled, cancelled_request, is_unanswered_invite}
use Rattle.sip_held_dialogs.specs.Dialogs.{Dialogs}
use Rattle.sip_held_dialogs.specs.Requests.{dialog_id_of, is_bye, is_cancel, has_to_tag}
use Rattle.sip_served.specs.Provisionals.{of_numbers}
use Rattle.sip_served.specs.Respond.{answer_to, by_refusal, by_request, confirms_dialog, dialogs_answered, makes_dialog, refusal_for, rejects}
use Rattle.sip_served.specs.Run.{Event, Takes, Ticks, event_taken}
use Rattle.sip_served.specs.ForUser.{brings, ids_for_user, for_user_of, if_for_user, is_request, told_from}
use Rattle.sip_held_dialogs.specs.Ids.{is_id}
use Rattle.sip_served.specs.State.{State, has_id}
use Rattle.sip_served.specs.Step.{server_command_taken, kind_taken}
use Rattle.sip_served.specs.Tick.{provisionals_ticked, provisionals_told, request_ticked, success_answer, success_at_tick, success_ticked, success_told}

-- ---- repeats show no request

success_shows : (now : ℕ) (held : HeldRequest) (o : Option Success)
    → reported (success_at_tick now held o).1 ≡ []
success_shows now held None = refl
success_shows now held (Some success) = told (success_answer now success)
  where
    told : (t : SuccessDue) → reported (success_told t held success.response) ≡ []
    told repeat.Nothing = refl
    told repeat.Again = refl
    told repeat.GivenUp = refl

repeats_show : (held : HeldRequest) (responses : List ReliableResponse)
    → reported (map (λ one. Command held.id (ByAnswer held.key one.response)) responses) ≡ []
repeats_show held [] = refl
repeats_show held (one ∷ responses) = repeats_show held responses

provisionals_show : (t : Tick) (held : HeldRequest) → reported (provisionals_told t held) ≡ []
provisionals_show tick.Nothing held = refl
provisionals_show (tick.Again numbers) held =
    repeats_show held (of_numbers numbers.items held.provisionals)
provisionals_show tick.GivenUp held = refl

ticks_show : (now : ℕ) (requests : List HeldRequest)
    → reported (flat_map (λ held. (request_ticked now held).1) requests) ≡ []
ticks_show now [] = refl
ticks_show now (held ∷ requests) =
    let first = (success_ticked now held).0 in
    none_of_both (request_ticked now held).1
    (flat_map (λ held. (request_ticked now held).1) requests)
    (none_of_both (success_ticked now held).1 (provisionals_ticked now first).1
    (success_shows now held held.success)
    (provisionals_show (tick_answer first.ledger now) first))
    (ticks_show now requests)

-- ---- each case

bye_shows : (request : Message) (name : DialogId) (state : State)
    → reported (bye_taken request name state).1 ≡ []
bye_shows request name state =
    by_bool (has_to_tag request && is_bye request)
    (λ e. rw e (end_shown name state.dialogs))
    (λ e. rw e refl)

case_shows : (case : ArrivalCase) (state : State) (call_id : List ℕ) (name : DialogId)
    (arrival : Arrival)
    → reported (by_case case state call_id name arrival).1 ≡ if_for_user arrival.id case
case_shows Merged state call_id name arrival = refl
case_shows BadExtension state call_id name arrival = refl
case_shows NoDialog state call_id name arrival = refl
case_shows OutOfOrder state call_id name arrival = refl
case_shows (Acknowledges invite rseq) state call_id name arrival = refl
case_shows AcknowledgesNothing state call_id name arrival = refl
case_shows ForUser state call_id name arrival =
    ap (λ rest. arrival.id ∷ rest) (bye_shows arrival.request name _)

cancel_shows : (state : State) (call_id : List ℕ) (arrival : Arrival) (now : ℕ)
    (o : Option HeldRequest) → reported (by_cancelled state call_id arrival now o).1 ≡ []
cancel_shows state call_id arrival now None = refl
cancel_shows state call_id arrival now (Some held) =
    by_bool (is_unanswered_invite held)
    (λ e. rw e (early_shown held.id state.dialogs))
    (λ e. rw e refl)

ack_shows : (state : State) (call_id : List ℕ) (ack : Message) (o : Option Id)
    → reported (ack_noted state call_id ack o).1 ≡ []
ack_shows state call_id ack None = refl
ack_shows state call_id ack (Some invite) = refl

answer_shows : (event : Id) (held : HeldRequest) (r : Answer) (response : Message)
    (dialogs : Dialogs) → reported (dialogs_answered event held r.status response dialogs).1 ≡ []
answer_shows event held r response dialogs =
    by_bool (makes_dialog held r.status) (λ e. rw e refl)
    (λ e. by_bool (confirms_dialog held r.status) (λ f. rw (e, f) refl)
    (λ f. by_bool (rejects held r.status)
    (λ g. rw (e, f, g) (early_shown held.id dialogs))
    (λ g. rw (e, f, g) refl)))

refusal_shows : (state : State) (event : Id) (r : Answer) (now : ℕ) (held : HeldRequest)
    (o : Option Refusal) → reported (by_refusal state event r now held o).1 ≡ []
refusal_shows state event r now held (Some refusal) = refl
refusal_shows state event r now held None =
    answer_shows event held r (answer_to state.local held r) state.dialogs

respond_shows : (state : State) (event : Id) (r : Answer) (now : ℕ) (o : Option HeldRequest)
    → reported (by_request state event r now o).1 ≡ []
respond_shows state event r now None = refl
respond_shows state event r now (Some held) =
    refusal_shows state event r now held (refusal_for state.dialogs r held)

kind_shows : (state : State) (tag : List ℕ) (up : Up) (kind : UpKind) (now : ℕ)
    → reported (kind_taken state tag up kind now).1 ≡ for_user_of state tag up kind
kind_shows state tag up (Request request reply_to) now =
    let arrival = arrival_of up request reply_to tag in
    let name = dialog_id_of request arrival.tag in
    by_bool (is_cancel request)
    (λ e. rw e (cancel_shows state up.call_id arrival now
    (cancelled_request up.key state.requests)))
    (λ e. rw e (case_shows (case_of state.requests state.dialogs name request)
    state up.call_id name arrival))
kind_shows state tag up (Ack ack) now =
    ack_shows state up.call_id ack (acknowledged_invite ack state.requests)
kind_shows state tag up (Response response) now = refl
kind_shows state tag up Timeout now = refl
kind_shows state tag up Failed now = refl

command_shows : (state : State) (id : Id) (c : UserCommand) (now : ℕ)
    → reported (server_command_taken state id c now).1 ≡ []
command_shows state id (command.Invite i) now = refl
command_shows state id (command.Plain i) now = refl
command_shows state id (command.Request i) now = refl
command_shows state id (command.Respond r) now =
    respond_shows state id r now (find (has_id r.id) state.requests)
command_shows state id (command.Ack i) now = refl
command_shows state id (command.Prack i) now = refl
command_shows state id (command.Cancel i) now = refl
command_shows state id (command.AbandonRequest i) now = refl
command_shows state id (command.AbandonDialog i) now = refl

pub event_shows : (state : State) (event : Event)
    → reported (event_taken state event).1 ≡ ids_for_user state event
event_shows state (Takes tag id (item.Up up) now) = kind_shows state tag up up.kind now
event_shows state (Takes tag id (item.User c) now) = command_shows state id c now
event_shows state (Ticks now) = ticks_show now state.requests

-- the requests that come up for the user by a list of events
abbrev came_from : State → List Event → List Id
came_from state [] = []
came_from state (event ∷ events) =
    ids_for_user state event ++ came_from (event_taken state event).0 events

all_shown : (events : List Event) (state : State)
    → told_from state events ≡ came_from state events
all_shown [] state = refl
all_shown (event ∷ events) state =
    λ i. event_shows state event i ++ all_shown events (event_taken state event).0 i

-- ---- no more often than it comes up

abbrev often : {X : Type 0} → (X → Bool) → List X → ℕ
often p xs = length (filter p xs)

both_often : {X : Type 0} (p : X → Bool) (xs ys : List X)
    → often p (xs ++ ys) ≡ often p xs + often p ys
both_often p [] ys = omega arith
both_often p (x ∷ xs) ys =
    by_bool (p x) (λ e. let h = both_often p xs ys in
    rw e (omega (arith, h))) (λ e. rw e (both_often p xs ys))

case_often : (p : Id → Bool) (one : Id) (case : ArrivalCase) (b : Bool) → p one ≡ b
    → often p (if_for_user one case) ≤ cond b 1 0
case_often p one Merged b is = omega arith
case_often p one BadExtension b is = omega arith
case_often p one NoDialog b is = omega arith
case_often p one OutOfOrder b is = omega arith
case_often p one (Acknowledges invite rseq) b is = omega arith
case_often p one AcknowledgesNothing b is = omega arith
case_often p one ForUser true is = rw is (omega arith)
case_often p one ForUser false is = rw is (omega arith)

kind_often : (state : State) (id : Id) (tag : List ℕ) (up : Up) (kind : UpKind)
    → often (is_id id) (for_user_of state tag up kind) ≤ cond (is_request kind (is_id id up.id)) 1 0
kind_often state id tag up (Request request reply_to) =
    let name = dialog_id_of request (arrival_of up request reply_to tag).tag in
    by_bool (is_cancel request) (λ e. rw e (omega arith))
    (λ e. rw e (case_often (is_id id) up.id (case_of state.requests state.dialogs name request)
    (is_id id up.id) refl))
kind_often state id tag up (Ack ack) = omega arith
kind_often state id tag up (Response response) = omega arith
kind_often state id tag up Timeout = omega arith
kind_often state id tag up Failed = omega arith

event_often : (state : State) (id : Id) (event : Event)
    → often (is_id id) (ids_for_user state event) ≤ cond (brings id event) 1 0
event_often state id (Takes tag one (item.Up up) now) = kind_often state id tag up up.kind
event_often state id (Takes tag one (item.User c) now) = omega arith
event_often state id (Ticks now) = omega arith

-- the user is told of a request by the event that brings it, and once
pub told_often : (state : State) (event : Event) (id : Id)
    → count_by (is_id id) (reported (event_taken state event).1) ≤ cond (brings id event) 1 0
told_often state event id =
    let told : length (filter (is_id id) (reported (event_taken state event).1))
    ≡ often (is_id id) (ids_for_user state event) =
    ap (λ ids. often (is_id id) ids) (event_shows state event) in
    let few = event_often state id event in
    let counted = length-filter (is_id id) (reported (event_taken state event).1) in
    omega (arith, told, few, counted)

head_often : (b : Bool) (event : Event) (chosen : List Event) (n m : ℕ) → n ≤ cond b 1 0
    → m ≤ length chosen → n + m ≤ length (cond b (event ∷ chosen) chosen)
head_often true event chosen n m first rest = omega (arith, first, rest)
head_often false event chosen n m first rest = omega (arith, first, rest)

all_often : (id : Id) (events : List Event) (state : State)
    → often (is_id id) (came_from state events) ≤ often (brings id) events
all_often id [] state = omega arith
all_often id (event ∷ events) state =
    let later = came_from (event_taken state event).0 events in
    subst (λ n. n ≤ often (brings id) (event ∷ events))
    (sym (both_often (is_id id) (ids_for_user state event) later))
    (head_often (brings id event) event (filter (brings id) events) _ _ (event_often state id event)
    (all_often id events (event_taken state event).0))

pub never_oftener : (id : Id) (events : List Event) (state : State)
    → count_by (is_id id) (told_from state events) ≤ count_by (brings id) events
never_oftener id events state =
    let told : length (filter (is_id id) (told_from state events))
    ≡ often (is_id id) (came_from state events) =
    ap (λ ids. often (is_id id) ids) (all_shown events state) in
    let h = all_often id events state in
    let a = length-filter (is_id id) (told_from state events) in
    let b = length-filter (brings id) events in
    omega (arith, told, h, a, b)
