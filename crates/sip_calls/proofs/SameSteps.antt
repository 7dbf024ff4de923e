-- The rules of a call say the same as the steps of its code.
use Rattle.std.proofs.Common.{◌≡◌, ℕ, Bool, true, false, List, [], ◌∷◌, ◌++◌, Option, Some, None, refl, ap, ◌∙◌}
use Rattle.sip_message.specs.declared.id.Id.{Id}
use Rattle.sip_transactions.specs.declared.output.UpKind.{UpKind}
use Rattle.sip_transactions.specs.declared.output.UpKind.TheVariants as kind
use Rattle.sip_transactions.specs.declared.output.Up.{Up as AnUp}
use Rattle.sip_user.specs.declared.command.UserCommand.{UserCommand}
use Rattle.sip_user.specs.declared.command.UserCommand.TheVariants.{Invite, Plain, Request, Respond, Ack, Prack, Cancel, AbandonRequest, AbandonDialog}
use Rattle.sip_user.specs.declared.item.Item.TheVariants.{Up, User}
use Rattle.sip_user.specs.declared.item.CallOut.TheVariants.{Notice}
use Rattle.sip_user.specs.declared.notice.Notice.{Notice as ANotice}
use Rattle.sip_user.specs.declared.notice.Notice.TheVariants.{Timeout, Failed}
use Rattle.sip_served.proofs.ArrivalRules.{kind_same}
use Rattle.sip_served.proofs.ResponseRules.{respond_same}
use Rattle.sip_clients.specs.Client.{ClientTaken}
use Rattle.sip_clients.specs.declared.event.Event.{Event}
use Rattle.sip_clients.proofs.Abandons as abandons
use Rattle.sip_clients.proofs.RuleEnds.{lost_same}
use Rattle.sip_clients.proofs.RuleRequests.{ack_same, cancel_same, invite_same, plain_same, prack_same, request_same}
use Rattle.sip_clients.proofs.RuleResponses.{response_same}
use Rattle.sip_calls.specs.declared.call.Call.{Call}
use Rattle.sip_calls.specs.declared.calls.Calls.{Calls}
use Rattle.sip_calls.specs.Call.{CallItem, call_step, event_of, item_of_call, kept, transaction_lost, made_tag, new_call, received, with_clients}
use Rattle.sip_calls.specs.Idle.{same_tick}
use Rattle.sip_calls.specs.Sides.{by_clients, by_server, side_of}
use Rattle.sip_calls.specs.Steps.Call.{command_taken, first_command_taken, lost_taken, step_taken, up_taken}

same_loss : (call : Call) (id : Id) (notice : ANotice) (timed_out : Bool)
    → transaction_lost call id notice timed_out ≡ lost_taken call id notice timed_out
same_loss call id notice timed_out =
    ap (λ (taken : ClientTaken). let after = by_clients call taken in
    (after.0, Notice notice ∷ after.1)) (lost_same id timed_out (side_of call))

same_up : (call : Call) (event : Event) (up : AnUp) (k : UpKind)
    → received call event up k ≡ up_taken call event up k
same_up call event up (kind.Request request reply_to) =
    ap (by_server call) (kind_same call.served (made_tag event) up (kind.Request request reply_to)
    event.moment)
same_up call event up (kind.Ack ack) =
    ap (by_server call) (kind_same call.served (made_tag event) up (kind.Ack ack) event.moment)
same_up call event up (kind.Response response) =
    ap (by_clients call) (response_same event up.id up.call_id response (side_of call))
same_up call event up kind.Timeout =
    same_loss call up.id (Timeout up.call_id up.id) true
same_up call event up kind.Failed = same_loss call up.id (Failed up.call_id up.id) false

same_first : (call : Call) (event : Event) (command : UserCommand)
    → item_of_call false call event (User command) ≡ first_command_taken call event command
same_first call event (Invite invite) =
    ap (with_clients call) (invite_same event invite call.clients)
same_first call event (Plain plain) =
    ap (with_clients call) (plain_same event plain call.clients)
same_first call event (Request request) = refl
same_first call event (Respond respond) = refl
same_first call event (Ack ack) = refl
same_first call event (Prack prack) = refl
same_first call event (Cancel cancel) = refl
same_first call event (AbandonRequest abandon) = refl
same_first call event (AbandonDialog abandon) = refl

same_later : (call : Call) (event : Event) (command : UserCommand)
    → item_of_call true call event (User command) ≡ command_taken call event command
same_later call event (Invite invite) = refl
same_later call event (Plain plain) = refl
same_later call event (Request request) =
    ap (by_clients call) (request_same event request (side_of call))
same_later call event (Respond respond) =
    ap (by_server call) (respond_same call.served event.id respond event.moment)
same_later call event (Ack ack) = ap (by_clients call) (ack_same event ack (side_of call))
same_later call event (Prack prack) =
    ap (by_clients call) (prack_same event prack (side_of call))
same_later call event (Cancel cancel) =
    ap (by_clients call) (cancel_same event cancel (side_of call))
same_later call event (AbandonRequest abandon) =
    ap (by_clients call) (abandons.request_same event abandon (side_of call))
same_later call event (AbandonDialog abandon) =
    ap (by_clients call) (abandons.dialog_same event abandon (side_of call))

pub same_step : (calls : Calls) (state : Option Call) (input : Option CallItem) (now : ℕ)
    → call_step calls state input now ≡ step_taken calls state input now
same_step calls None None now = refl
same_step calls (Some call) None now = ap kept (same_tick call now)
same_step calls None (Some (id, Up up)) now =
    ap kept (same_up (new_call calls.local) (event_of calls id now) up up.kind)
same_step calls None (Some (id, User command)) now =
    ap kept (same_first (new_call calls.local) (event_of calls id now) command)
same_step calls (Some call) (Some (id, Up up)) now =
    ap kept (same_up call (event_of calls id now) up up.kind)
same_step calls (Some call) (Some (id, User command)) now =
    ap kept (same_later call (event_of calls id now) command)
