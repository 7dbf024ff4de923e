-- A command that is refused only gives its notice, and changes nothing.
use Rattle.std.proofs.Common.{◌≡◌, ℕ, false, List, refl, ap, subst, sym}
use Rattle.std.specs.Prelude.{Option, None, Some, filter, find}
use Rattle.std.specs.Map.{values_of}
use Rattle.std.specs.List.{list_any}
use Rattle.std.specs.Option.{option_and_then}
use Rattle.sip_user.specs.declared.item.Item.TheVariants.{User}
use Rattle.std.proofs.lemmas.Bool.{false≢true}
use Rattle.sip_message.specs.declared.id.Id.{Id}
use Rattle.sip_message.specs.declared.message.Message.{Message}
use Rattle.sip_user.specs.Command.{call_of_command}
use Rattle.sip_held_dialogs.specs.Dialogs.{Dialogs, is_early_of}
use Rattle.sip_served.specs.Respond.{by_refusal, by_request, confirms_dialog, dialogs_answered, makes_dialog, refusal_for, rejects, respond_taken}
use Rattle.sip_served.specs.State.{State, has_id}
use Rattle.sip_user.specs.declared.command.Plain.{Plain as APlain}
use Rattle.sip_user.specs.declared.command.Respond.{Respond as ARespond}
use Rattle.sip_user.specs.declared.command.UserCommand.{UserCommand}
use Rattle.sip_user.specs.declared.command.UserCommand.TheVariants.{Invite, Plain, Request, Respond, Ack, Prack, Cancel, AbandonRequest, AbandonDialog}
use Rattle.sip_served.specs.declared.held_request.HeldRequest.{HeldRequest}
use Rattle.sip_user.specs.declared.refusal.Refusal.{Refusal}
use Rattle.sip_user.specs.declared.refusal.Refusal.TheVariants.{BadMethod, CallInUse, NoSuchCall, NoSuchRequest}
use Rattle.sip_clients.proofs.Abandons as abandons
use Rattle.sip_clients.specs.Abandon.{dialog_abandoned, request_abandoned}
use Rattle.sip_clients.specs.Client.{ClientTaken}
use Rattle.sip_clients.specs.Cancel.{cancel_by_user}
use Rattle.sip_clients.specs.Clients.{ack_by_user, prack_by_user, request_by_user}
use Rattle.sip_clients.specs.Commands.{is_bad_outside}
use Rattle.sip_clients.specs.Outputs.{start_command}
use Rattle.sip_clients.specs.declared.event.Event.{Event}
use Rattle.sip_calls.specs.Call.{Taken, event_of, kept, kept_call, new_call}
use Rattle.sip_calls.specs.RefusedCommands.{RefusedAlone}
use Rattle.sip_calls.specs.Sides.{by_clients, by_server, side_of}
use Rattle.sip_calls.specs.declared.call.Call.{Call}
use Rattle.sip_calls.specs.declared.calls.Calls.{Calls}
use Rattle.sip_calls.specs.Steps.Call.{command_taken, first_command_taken, step_taken}
use Rattle.sip_calls.proofs.SameSteps.{same_step}
use Rattle.sip_clients.specs.RefusedCommands.{is_refusal, IsRefusedAlone}
use Rattle.sip_clients.proofs.RefusedAlone.{ack_alone, by_bool, cancel_alone, ends_told, prack_alone, request_alone, silent, told_alone}

-- ---- an answer

answered_told : (event : Id) (held : HeldRequest) (respond : ARespond) (response : Message)
    (dialogs : Dialogs)
    → list_any is_refusal (dialogs_answered event held respond.status response dialogs).1 ≡ false
answered_told event held respond response dialogs =
    by_bool (makes_dialog held respond.status) (λ makes. rw makes refl)
    (λ no. rw no (by_bool (confirms_dialog held respond.status) (λ confirms. rw confirms refl)
    (λ no. rw no (by_bool (rejects held respond.status)
    (λ rejected. rw rejected (ends_told (filter (is_early_of held.id) (values_of dialogs))))
    (λ no. rw no refl)))))

respond_alone : (state : State) (event : Id) (respond : ARespond) (now : ℕ)
    → IsRefusedAlone state respond.call_id event (respond_taken state event respond now)
respond_alone state event respond now = by_held (find (has_id respond.id) state.requests)
  where
    by_fault : (held : HeldRequest) (refusal : Option Refusal)
        → IsRefusedAlone state respond.call_id event
        (by_refusal state event respond now held refusal)
    by_fault held (Some refusal) = told_alone state respond.call_id event refusal
    by_fault held None =
        silent state respond.call_id event (by_refusal state event respond now held None)
        (answered_told event held respond _ state.dialogs)

    by_held : (held : Option HeldRequest)
        → IsRefusedAlone state respond.call_id event (by_request state event respond now held)
    by_held None = told_alone state respond.call_id event NoSuchRequest
    by_held (Some held) = by_fault held (refusal_for state.dialogs respond held)

-- ---- a whole call

by_clients_alone : (call : Call) (call_id : List ℕ) (event : Id) (taken : ClientTaken)
    → IsRefusedAlone (side_of call) call_id event taken
    → IsRefusedAlone call call_id event (by_clients call taken)
by_clients_alone call call_id event taken alone some =
    let m = alone some in (m.0, ap (by_clients call) m.1)

plain_alone : (call : Call) (event : Event) (plain : APlain)
    → IsRefusedAlone call plain.call_id event.id (first_command_taken call event (Plain plain))
unfolding start_command
plain_alone call event plain = by_bool (is_bad_outside plain.method)
    (λ bad. rw bad (told_alone call plain.call_id event.id BadMethod))
    (λ good. rw good (λ some. absurd (false≢true some)))

first_alone : (call : Call) (event : Event) (command : UserCommand)
    → IsRefusedAlone call (call_of_command command) event.id
    (first_command_taken call event command)
unfolding start_command
first_alone call event (Invite invite) = λ some. absurd (false≢true some)
first_alone call event (Plain plain) = plain_alone call event plain
first_alone call event (Request request) =
    told_alone call request.call_id event.id NoSuchCall
first_alone call event (Respond respond) =
    told_alone call respond.call_id event.id NoSuchCall
first_alone call event (Ack ack) = told_alone call ack.call_id event.id NoSuchCall
first_alone call event (Prack prack) = told_alone call prack.call_id event.id NoSuchCall
first_alone call event (Cancel cancel) =
    told_alone call cancel.call_id event.id NoSuchCall
first_alone call event (AbandonRequest abandon) =
    told_alone call abandon.call_id event.id NoSuchCall
first_alone call event (AbandonDialog abandon) =
    told_alone call abandon.call_id event.id NoSuchCall

later_alone : (call : Call) (event : Event) (command : UserCommand)
    → IsRefusedAlone call (call_of_command command) event.id (command_taken call event command)
later_alone call event (Invite invite) =
    told_alone call invite.call_id event.id CallInUse
later_alone call event (Plain plain) = told_alone call plain.call_id event.id CallInUse
later_alone call event (Request request) =
    by_clients_alone call request.call_id event.id
    (request_by_user event request (side_of call)) (request_alone event (side_of call) request)
later_alone call event (Respond respond) = λ some.
    let m = respond_alone call.served event.id respond event.moment some in
    (m.0, ap (by_server call) m.1)
later_alone call event (Ack ack) =
    by_clients_alone call ack.call_id event.id (ack_by_user event ack (side_of call))
    (ack_alone event (side_of call) ack)
later_alone call event (Prack prack) =
    by_clients_alone call prack.call_id event.id
    (prack_by_user event prack (side_of call)) (prack_alone event (side_of call) prack)
later_alone call event (Cancel cancel) =
    by_clients_alone call cancel.call_id event.id
    (cancel_by_user event cancel (side_of call)) (cancel_alone event (side_of call) cancel)
later_alone call event (AbandonRequest abandon) =
    by_clients_alone call abandon.call_id event.id
    (request_abandoned event abandon (side_of call))
    (abandons.request_alone event (side_of call) abandon)
later_alone call event (AbandonDialog abandon) =
    by_clients_alone call abandon.call_id event.id
    (dialog_abandoned event abandon (side_of call))
    (abandons.dialog_alone event (side_of call) abandon)

refused_taken : (calls : Calls) (call : Option Call) (id : Id) (command : UserCommand) (now : ℕ)
    → IsRefusedAlone (option_and_then kept_call call) (call_of_command command) id
    (step_taken calls call (Some (id, User command)) now)
refused_taken calls None id command now some =
    let m = first_alone (new_call calls.local) (event_of calls id now) command some in
    (m.0, ap kept m.1)
refused_taken calls (Some call) id command now some =
    let m = later_alone call (event_of calls id now) command some in (m.0, ap kept m.1)

pub refused_alone : RefusedAlone
refused_alone calls call id command now =
    subst (λ (taken : Taken).
    IsRefusedAlone (option_and_then kept_call call) (call_of_command command) id taken)
    (sym (same_step calls call (Some (id, User command)) now))
    (refused_taken calls call id command now)
