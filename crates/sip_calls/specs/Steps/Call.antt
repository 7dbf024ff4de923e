-- What each input of a call does, step by step as the code does it.
use Rattle.std.specs.Prelude.{ℕ, Bool, true, false, List, [], ◌∷◌, ◌++◌, Option, None, Some, if◌then◌else◌}
use Rattle.sip_message.specs.declared.addr.Addr.{Addr}
use Rattle.sip_message.specs.declared.id.Id.{Id}
use Rattle.keyed_machine.specs.Machine.{Machine, Timed}
use Rattle.sip_transactions.specs.declared.output.UpKind.{UpKind}
use Rattle.sip_transactions.specs.declared.output.UpKind.TheVariants as kind
use Rattle.sip_transactions.specs.declared.output.Up.{Up as AnUp}
use Rattle.sip_served.specs.Respond.{respond_taken}
use Rattle.sip_served.specs.State.{empty_at}
use Rattle.sip_served.specs.Step.{kind_taken}
use Rattle.sip_user.specs.declared.command.UserCommand.{UserCommand}
use Rattle.sip_user.specs.declared.command.UserCommand.TheVariants.{Invite, Plain, Request, Respond, Ack, Prack, Cancel, AbandonRequest, AbandonDialog}
use Rattle.sip_user.specs.declared.item.Item.{Item}
use Rattle.sip_user.specs.declared.item.Item.TheVariants.{Up, User}
use Rattle.sip_user.specs.declared.item.CallOut.{CallOut}
use Rattle.sip_user.specs.declared.item.CallOut.TheVariants.{Notice}
use Rattle.sip_user.specs.declared.notice.Notice.{Notice as ANotice}
use Rattle.sip_user.specs.declared.notice.Notice.TheVariants.{Timeout, Failed}
use Rattle.sip_user.specs.Notices.{refused}
use Rattle.sip_user.specs.declared.refusal.Refusal.TheVariants.{CallInUse, NoSuchCall}
use Rattle.sip_clients.specs.Abandon.{dialog_abandoned, request_abandoned}
use Rattle.sip_clients.specs.Cancel.{cancel_by_user}
use Rattle.sip_clients.specs.Client.{Clients}
use Rattle.sip_clients.specs.Clients.{ack_by_user, invite_taken, request_lost, plain_taken, prack_by_user, request_by_user, response_taken}
use Rattle.sip_clients.specs.Name.{name_of}
use Rattle.sip_clients.specs.declared.event.Event.{Event}
use Rattle.sip_calls.specs.declared.call.Call.{Call}
use Rattle.sip_calls.specs.declared.calls.Calls.{Calls}
use Rattle.sip_calls.specs.Call.{CallItem, Taken, event_of, kept, made_tag, new_call, with_clients}
use Rattle.sip_calls.specs.Sides.{CallTaken, by_clients, by_server, holds_any, side_of}
use Rattle.sip_timers.specs.Earlier.{earlier}
use Rattle.sip_served.specs.Tick as served
use Rattle.sip_clients.specs.Tick as clients

-- one thing happens, and then another
abbrev pub one_after_other : CallTaken → (Call → CallTaken) → CallTaken
one_after_other done more = ((more done.0).0, done.1 ++ (more done.0).1)

-- ---- what comes up

-- what comes up for the server side
abbrev pub served_taken : Call → Event → AnUp → UpKind → CallTaken
served_taken call event up kind =
    by_server call (kind_taken call.served (made_tag event) up kind event.moment)

-- a transaction is lost: the user is told, and then what ends with its request ends
abbrev pub lost_taken : Call → Id → ANotice → Bool → CallTaken
lost_taken call id notice timed_out =
    one_after_other (call, Notice notice ∷ []) (λ call. by_clients call
    (request_lost id timed_out (side_of call)))

-- what comes up from a transaction: a request and an ACK go to the server side, the others to the
-- client side
abbrev pub up_taken : Call → Event → AnUp → UpKind → CallTaken
up_taken call event up (kind.Request request reply_to) =
    served_taken call event up (kind.Request request reply_to)
up_taken call event up (kind.Ack ack) = served_taken call event up (kind.Ack ack)
up_taken call event up (kind.Response response) =
    by_clients call (response_taken event up.id up.call_id response (side_of call))
up_taken call event up kind.Timeout = lost_taken call up.id (Timeout up.call_id up.id) true
up_taken call event up kind.Failed = lost_taken call up.id (Failed up.call_id up.id) false

-- ---- commands of the user

-- a command while nothing is held: only a first request is sent
abbrev pub first_command_taken : Call → Event → UserCommand → CallTaken
first_command_taken call event (Invite invite) =
    with_clients call (invite_taken event invite call.clients)
first_command_taken call event (Plain plain) =
    with_clients call (plain_taken event plain call.clients)
first_command_taken call event (Request request) =
    (call, refused event.id request.call_id NoSuchCall)
first_command_taken call event (Respond respond) =
    (call, refused event.id respond.call_id NoSuchCall)
first_command_taken call event (Ack ack) = (call, refused event.id ack.call_id NoSuchCall)
first_command_taken call event (Prack prack) = (call, refused event.id prack.call_id NoSuchCall)
first_command_taken call event (Cancel cancel) = (call, refused event.id cancel.call_id NoSuchCall)
first_command_taken call event (AbandonRequest abandon) =
    (call, refused event.id abandon.call_id NoSuchCall)
first_command_taken call event (AbandonDialog abandon) =
    (call, refused event.id abandon.call_id NoSuchCall)

-- a command while something is held: no first request is sent
abbrev pub command_taken : Call → Event → UserCommand → CallTaken
command_taken call event (Invite invite) = (call, refused event.id invite.call_id CallInUse)
command_taken call event (Plain plain) = (call, refused event.id plain.call_id CallInUse)
command_taken call event (Request request) =
    by_clients call (request_by_user event request (side_of call))
command_taken call event (Respond respond) =
    by_server call (respond_taken call.served event.id respond event.moment)
command_taken call event (Ack ack) = by_clients call (ack_by_user event ack (side_of call))
command_taken call event (Prack prack) = by_clients call (prack_by_user event prack (side_of call))
command_taken call event (Cancel cancel) =
    by_clients call (cancel_by_user event cancel (side_of call))
command_taken call event (AbandonRequest abandon) =
    by_clients call (request_abandoned event abandon (side_of call))
command_taken call event (AbandonDialog abandon) =
    by_clients call (dialog_abandoned event abandon (side_of call))

-- ---- the machine

-- an item of a call that isn't held: what comes up, or a first request, may begin it
abbrev pub first_item_taken : Call → Event → Item → CallTaken
first_item_taken call event (Up up) = up_taken call event up up.kind
first_item_taken call event (User command) = first_command_taken call event command

-- an item: what comes up, or a command of the user
abbrev pub item_taken : Call → Event → Item → CallTaken
item_taken call event (Up up) = up_taken call event up up.kind
item_taken call event (User command) = command_taken call event command

-- ---- time

-- first the server side, and then the client side
abbrev pub ticked : Call → ℕ → CallTaken
ticked call now =
    one_after_other (by_server call (served.tick_taken call.served now))
    (λ call. by_clients call (clients.clients_ticked (side_of call) now))

-- the first moment at which something is due
abbrev pub next_due : Call → Option ℕ
next_due call =
    earlier (served.next_server_due call.served) (clients.next_removal call.clients)

-- the moment at which something of a call is due (0 if nothing is held, since such a call is over)
abbrev pub due_taken : Call → Option ℕ
due_taken call = if holds_any call then next_due call else Some 0

-- ---- all of it

-- a call after an item, or, without one, after a tick
abbrev pub step_taken : Calls → Option Call → Option CallItem → ℕ → Taken
step_taken calls None None now = (None, [])
step_taken calls None (Some (id, item)) now =
    kept (first_item_taken (new_call calls.local) (event_of calls id now) item)
step_taken calls (Some call) None now = kept (ticked call now)
step_taken calls (Some call) (Some (id, item)) now =
    kept (item_taken call (event_of calls id now) item)
