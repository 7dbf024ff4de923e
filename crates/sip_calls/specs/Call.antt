-- The rules of one call: how each input changes it, and what it gives (RFC 3261, sections 8, 12,
-- 13; RFC 3262).
use Rattle.std.specs.Prelude.{ℕ, Bool, true, false, List, [], ◌∷◌, ◌++◌, Option, None, Some, if◌then◌else◌}
use Rattle.std.specs.Option.{option_map_or}
use Rattle.sip_message.specs.declared.addr.Addr.{Addr}
use Rattle.sip_message.specs.declared.id.Id.{Id}
use Rattle.keyed_machine.specs.Machine.{Machine, Timed}
use Rattle.sip_timers.specs.Earlier.{earlier}
use Rattle.sip_transactions.specs.declared.output.UpKind.{UpKind}
use Rattle.sip_transactions.specs.declared.output.UpKind.TheVariants as kind
use Rattle.sip_transactions.specs.declared.output.Up.{Up as AnUp}
use Rattle.sip_user.specs.Command.{call_of_command}
use Rattle.sip_user.specs.Notices.{refused}
use Rattle.sip_user.specs.declared.command.UserCommand.{UserCommand}
use Rattle.sip_user.specs.declared.command.UserCommand.TheVariants.{Invite, Plain, Request, Respond, Ack, Prack, Cancel, AbandonRequest, AbandonDialog}
use Rattle.sip_user.specs.declared.item.Item.{Item}
use Rattle.sip_user.specs.declared.item.Item.TheVariants.{Up, User}
use Rattle.sip_user.specs.declared.item.CallOut.{CallOut}
use Rattle.sip_user.specs.declared.item.CallOut.TheVariants.{Notice}
use Rattle.sip_user.specs.declared.notice.Notice.{Notice as ANotice}
use Rattle.sip_user.specs.declared.notice.Notice.TheVariants.{Timeout, Failed}
use Rattle.sip_user.specs.declared.refusal.Refusal.{Refusal}
use Rattle.sip_user.specs.declared.refusal.Refusal.TheVariants.{CallInUse, NoSuchCall}
use Rattle.sip_served.specs.State.{empty_at}
use Rattle.sip_served.specs.Rules.Arrivals.{server_received}
use Rattle.sip_served.specs.Rules.Responses.{respond_command}
use Rattle.sip_served.specs.Rules.Ticks as served
use Rattle.sip_clients.specs.Client.{Clients}
use Rattle.sip_clients.specs.Name.{name_of}
use Rattle.sip_clients.specs.Rules.Abandon.{abandon_dialog_command, abandon_request_command}
use Rattle.sip_clients.specs.Rules.Ends as clients
use Rattle.sip_clients.specs.Rules.Ends.{request_is_lost}
use Rattle.sip_clients.specs.Rules.Requests.{ack_command, cancel_command, invite_command, plain_command, prack_command, request_command}
use Rattle.sip_clients.specs.Rules.Responses.{response_received}
use Rattle.sip_clients.specs.declared.event.Event.{Event}
use Rattle.sip_calls.specs.declared.call.Call.{Call}
use Rattle.sip_calls.specs.declared.calls.Calls.{Calls}
pub use Rattle.sip_calls.specs.Sides.{CallTaken, by_clients, by_server, holds_any, side_of}

-- a call afterwards, `None` if it isn't held, and what it gives
abbrev pub Taken : Type 0
Taken = Option Call × List CallOut

-- a call under which nothing is held is no longer held
abbrev pub kept_call : Call → Option Call
kept_call call = if holds_any call then Some call else None

-- the call, if anything is held under it, and what it gives
abbrev pub kept : CallTaken → Taken
kept taken = (kept_call taken.0, taken.1)

-- a call under which nothing is held yet
abbrev pub new_call : Addr → Call
new_call local = record { served = empty_at local; clients = [] }

-- an event, with what all calls share: the agent's address (`local`) and its `seed`
abbrev pub event_of : Calls → Id → ℕ → Event
event_of calls id now = record { local = calls.local; seed = calls.seed; id = id; moment = now }

-- ---- what comes up

-- the To tag that an event makes for a request without one: index 0 is also that of the branch, but
-- a received request makes none
abbrev pub made_tag : Event → List ℕ
made_tag event = name_of event.seed event.id 0

-- A transaction timed out or could not send: the user is told, then its client request is over. If
-- it is a server transaction, nothing else changes.
abbrev pub transaction_lost : Call → Id → ANotice → Bool → CallTaken
transaction_lost call id notice timed_out =
    let after = by_clients call (request_is_lost id timed_out (side_of call)) in
    (after.0, Notice notice ∷ after.1)

-- What comes up from a transaction: a response is for the client side, a request or an ACK (the
-- last case) for the server side.
abbrev pub received : Call → Event → AnUp → UpKind → CallTaken
received call event up (kind.Response response) =
    by_clients call (response_received event up.id up.call_id response (side_of call))
received call event up kind.Timeout = transaction_lost call up.id (Timeout up.call_id up.id) true
received call event up kind.Failed = transaction_lost call up.id (Failed up.call_id up.id) false
received call event up of_server =
    by_server call (server_received call.served (made_tag event) up of_server event.moment)

-- ---- commands of the user

-- the call after a change of its client requests, and what it gives
abbrev pub with_clients : Call → Clients × List CallOut → CallTaken
with_clients call taken = (record call { clients = taken.0 }, taken.1)

-- Invite and Plain begin a call: nothing may be held under their Call-ID; others need a held call
abbrev pub call_refusal : Bool → UserCommand → Option Refusal
call_refusal held (Invite invite) = if held then Some CallInUse else None
call_refusal held (Plain plain) = if held then Some CallInUse else None
call_refusal held command = if held then None else Some NoSuchCall

-- a command that isn't refused by this
abbrev pub used_command : Call → Event → UserCommand → CallTaken
used_command call event (Invite invite) =
    with_clients call (invite_command event invite call.clients)
used_command call event (Plain plain) = with_clients call (plain_command event plain call.clients)
used_command call event (Request request) =
    by_clients call (request_command event request (side_of call))
used_command call event (Respond respond) =
    by_server call (respond_command call.served event.id respond event.moment)
used_command call event (Ack ack) = by_clients call (ack_command event ack (side_of call))
used_command call event (Prack prack) = by_clients call (prack_command event prack (side_of call))
used_command call event (Cancel cancel) =
    by_clients call (cancel_command event cancel (side_of call))
used_command call event (AbandonRequest abandon) =
    by_clients call (abandon_request_command event abandon (side_of call))
used_command call event (AbandonDialog abandon) =
    by_clients call (abandon_dialog_command event abandon (side_of call))

-- ---- the machine

-- an item of a call that is held, or isn't held yet
abbrev pub item_of_call : Bool → Call → Event → Item → CallTaken
item_of_call held call event (Up up) = received call event up up.kind
item_of_call held call event (User command) =
    option_map_or (λ refusal. (call, refused event.id (call_of_command command) refusal))
    (call_refusal held command) (used_command call event command)

-- A tick: first the server side (sip_served Rules/Ticks), then the client side (sip_clients Ends).
abbrev pub call_tick : Call → ℕ → CallTaken
call_tick call now =
    let first = by_server call (served.server_tick call.served now) in
    let second = by_clients first.0 (clients.client_tick (side_of first.0) now) in
    (second.0, first.1 ++ second.1)

-- an item, and the id of its event
abbrev pub CallItem : Type 0
CallItem = Id × Item

-- a call after an item, or, without one, after a tick
abbrev pub call_step : Calls → Option Call → Option CallItem → ℕ → Taken
call_step calls None None now = (None, [])
call_step calls None (Some (id, item)) now =
    kept (item_of_call false (new_call calls.local) (event_of calls id now) item)
call_step calls (Some call) None now = kept (call_tick call now)
call_step calls (Some call) (Some (id, item)) now =
    kept (item_of_call true call (event_of calls id now) item)

-- one machine for every Call-ID; an input (`Timed`) has a moment, and an item or none
abbrev pub call_machine : Calls → Machine (List ℕ) Call (Timed CallItem) CallOut
call_machine calls =
    record { step = λ key state timed. call_step calls state timed.input timed.moment }

-- ---- for steps and laws: `run` needs nothing of what follows

-- the moment at which something of a call is due (0 if nothing is held, since such a call is over)
abbrev pub call_due : Call → Option ℕ
call_due call =
    if holds_any call then earlier (served.server_due call.served) (clients.client_due call.clients)
    else Some 0
