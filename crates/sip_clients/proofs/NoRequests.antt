-- The client side of a call never tells the user of a request that comes up.
use Rattle.std.proofs.Common.{◌≡◌, ℕ, Bool, true, false, cond, List, [], ◌∷◌, ◌++◌, refl}
use Rattle.std.specs.Prelude.{Option, None, Some}
use Rattle.std.specs.Map.{set_value}
use Rattle.std.specs.Option.{option_map}
use Rattle.sip_message.specs.declared.id.Id.{Id}
use Rattle.sip_message.specs.declared.message.Message.{Message}
use Rattle.sip_user.specs.declared.command.Cancel.{Cancel}
use Rattle.sip_user.specs.declared.command.DialogBody.{DialogBody}
use Rattle.sip_user.specs.declared.command.DialogRequest.{DialogRequest}
use Rattle.sip_user.specs.declared.command.Invite.{Invite}
use Rattle.sip_user.specs.declared.command.Plain.{Plain as PlainCommand}
use Rattle.sip_held_dialogs.specs.declared.pending_request.PendingRequest.{PendingRequest}
use Rattle.sip_held_dialogs.specs.declared.held_dialog.DialogId.{DialogId}
use Rattle.sip_user.specs.declared.item.CallOut.{CallOut}
use Rattle.sip_user.specs.declared.refusal.Refusal.TheVariants.{BadMethod}
use Rattle.sip_held_dialogs.specs.Requests.{is_final}
use Rattle.sip_held_dialogs.specs.Ids.{is_id}
use Rattle.sip_held_dialogs.proofs.ToldRequests.{none_of_both, reported}
use Rattle.sip_clients.specs.declared.cancel_command.CancelCase.{CancelCase}
use Rattle.sip_clients.specs.declared.cancel_command.CancelCase.TheVariants as ask
use Rattle.sip_clients.specs.declared.client.RequestKind.TheVariants.{OutOfDialog}
use Rattle.sip_clients.specs.declared.client.Cancelling.TheVariants as cancel
use Rattle.sip_clients.specs.declared.client.Client.{Client}
use Rattle.sip_clients.specs.declared.pending.PendingKind.TheVariants as kind
use Rattle.sip_clients.specs.declared.event.Event.{Event}
use Rattle.sip_clients.specs.declared.outputs.ClientChange.{ClientChange}
use Rattle.sip_clients.specs.declared.outputs.ClientChange.TheVariants.{Stays, Over, Starts}
use Rattle.sip_clients.specs.declared.reply.ReceivedResponse.{ReceivedResponse}
use Rattle.sip_clients.specs.Cancel.{asked, cancel_case, cancel_by_user, cancel_client, cancelled_as, cancelled_of, freed_by, after_response, sent_beside}
use Rattle.sip_clients.specs.Client.{Clients, Side, client_at, client_changed, client_for}
use Rattle.sip_clients.specs.Clients.{ack_by_user, found_taken, invite_taken, request_lost, lost_of, plain_taken, prack_paid, prack_by_user, reply_name, reply_of, reply_settled, request_by_user, response_taken, settled, started, status_of}
use Rattle.sip_clients.specs.Commands.{bye_ended, pending_for, is_bad_outside, name_in, requested_at}
use Rattle.sip_clients.specs.Dialogs.{paid_at}
use Rattle.sip_user.specs.Notices.{refused}
use Rattle.sip_clients.specs.Outputs.{request_said, start_command}
use Rattle.sip_clients.specs.Outside.{plain_of}
use Rattle.sip_clients.specs.Replied.{reply_taken}
use Rattle.sip_clients.specs.Tick.{clients_ticked}
use Rattle.sip_clients.proofs.ReplyStarts.{replies}
use Rattle.sip_clients.proofs.WithoutStarts.{none_shown, request_said_quiet, ack_quiet, bye_quiet, lost_quiet, tick_quiet}
use Rattle.sip_clients.proofs.Served.{paid_either}

-- ---- what is sent

start_asks : (event : Event) (client : Client) (clients : Clients)
    → reported (started event client clients).1 ≡ []
unfolding start_command
start_asks event client clients = refl

settled_asks : (event : Event) (id : Id) (change : ClientChange) (clients : Clients)
    → reported (settled event id change clients).1 ≡ []
settled_asks event id Stays clients = refl
settled_asks event id Over clients = refl
settled_asks event id (Starts client) clients = start_asks event client clients

beside_asks : (freed : Option Id) (invite : Client) (done : Clients × List CallOut)
    → reported done.1 ≡ []
    → reported (sent_beside (option_map (λ id. cancel_client id invite) freed) done).1 ≡ []
unfolding start_command
beside_asks None invite done none = none
beside_asks (Some id) invite done none =
    none_of_both done.1 (start_command id (cancel_client id invite) ∷ []) none refl

-- ---- a response

replied_asks : (answer : ReceivedResponse) (client : Client) (side : Side)
    → reported (reply_settled answer client side).1 ≡ []
replied_asks answer client side =
    let final = is_final answer.status in
    let done = reply_taken (after_response final client) side.dialogs answer in
    let after = settled answer.event answer.id done.3
    (set_value (is_id answer.id) side.clients done.0) in
    beside_asks (freed_by final client.cancel) client (after.0, done.2 ++ after.1)
    (none_of_both done.2 after.1
    (none_shown done.2 (replies (after_response final client) side.dialogs answer).quiet)
    (settled_asks answer.event answer.id done.3
    (set_value (is_id answer.id) side.clients done.0)))

found_asks : (event : Event) (id : Id) (call_id : List ℕ) (response : Message)
    (status : Option ℕ) (found : Option Client) (side : Side)
    → reported (found_taken event id call_id response status found side).1 ≡ []
found_asks event id call_id response None found side = refl
found_asks event id call_id response (Some status) None side = refl
found_asks event id call_id response (Some status) (Some client) side =
    replied_asks (reply_of event id call_id (reply_name client.kind client response) status
    response) client side

pub response_asks : (event : Event) (id : Id) (call_id : List ℕ) (response : Message)
    (side : Side) → reported (response_taken event id call_id response side).1 ≡ []
response_asks event id call_id response side =
    found_asks event id call_id response (status_of response.start) (client_at id side.clients)
    side

-- ---- a request that is lost, and a tick

pub lost_asks : (id : Id) (timed_out : Bool) (side : Side)
    → reported (request_lost id timed_out side).1 ≡ []
lost_asks id timed_out side =
    let found = client_at id side.clients in
    none_shown (lost_of id timed_out found side).1 (lost_quiet id timed_out found side)

pub tick_asks : (side : Side) (now : ℕ) → reported (clients_ticked side now).1 ≡ []
tick_asks side now =
    none_shown (clients_ticked side now).1 (tick_quiet now side.dialogs side.clients)

-- ---- commands

pub invite_asks : (event : Event) (invite : Invite) (clients : Clients)
    → reported (invite_taken event invite clients).1 ≡ []
unfolding start_command
invite_asks event invite clients = refl

plain_by : (b : Bool) (event : Event) (plain : PlainCommand) (clients : Clients)
    → reported (cond {A = Clients × List CallOut} b
    (clients, refused event.id plain.call_id BadMethod)
    (started event (client_for event.id OutOfDialog (plain_of event plain) plain.address)
    clients)).1
    ≡ []
plain_by true event plain clients = refl
plain_by false event plain clients =
    start_asks event (client_for event.id OutOfDialog (plain_of event plain) plain.address) clients

pub plain_asks : (event : Event) (plain : PlainCommand) (clients : Clients)
    → reported (plain_taken event plain clients).1 ≡ []
plain_asks event plain clients = plain_by (is_bad_outside plain.method) event plain clients

pub request_asks : (event : Event) (command : DialogRequest) (side : Side)
    → reported (request_by_user event command side).1 ≡ []
request_asks event command side =
    let name = name_in command.local_tag command.remote_tag in
    let done = requested_at name event command side.dialogs in
    let said = request_said event command.call_id name done.1 in
    let after = settled event event.id said.1 side.clients in
    let bye = bye_ended name command.method done.1 done.0 in
    none_of_both (said.0 ++ after.1) bye.1
    (none_of_both said.0 after.1
    (none_shown said.0 (request_said_quiet event command.call_id name done.1))
    (settled_asks event event.id said.1 side.clients))
    (none_shown bye.1 (bye_quiet name command.method done.1 done.0))

prack_paid_asks : (event : Event) (command : DialogBody) (name : DialogId)
    (pending : PendingRequest)
    (side : Side) → reported (prack_paid event command name pending side).1 ≡ []
prack_paid_asks event command name pending side =
    let sent_pending = paid_at name event pending command.content side.dialogs in
    let said = request_said event command.call_id name sent_pending.1 in
    none_of_both said.0 (settled event event.id said.1 side.clients).1
    (none_shown said.0 (request_said_quiet event command.call_id name sent_pending.1))
    (settled_asks event event.id said.1 side.clients)

pub ack_command_asks : (event : Event) (command : DialogBody) (side : Side)
    → reported (ack_by_user event command side).1 ≡ []
ack_command_asks event command side =
    none_shown (ack_by_user event command side).1 (ack_quiet event command side)

pub prack_command_asks : (event : Event) (command : DialogBody) (side : Side)
    → reported (prack_by_user event command side).1 ≡ []
prack_command_asks event command side =
    let name = name_in command.local_tag command.remote_tag in
    paid_either (λ taken. reported taken.1 ≡ []) event command (prack_paid event command name) side
    (pending_for kind.Prack name side.dialogs) (λ refusal. refl)
    (λ pending. prack_paid_asks event command name pending side)

cancel_by : (as_case : CancelCase) (event : Event) (command : Cancel) (invite : Client)
    (clients : Clients) → reported (cancelled_as as_case event command invite clients).1 ≡ []
cancel_by (ask.Refused refusal) event command invite clients = refl
cancel_by ask.Repeated event command invite clients = refl
cancel_by ask.Waits event command invite clients = refl
cancel_by ask.Starts event command invite clients =
    beside_asks (Some event.id) invite
    (client_changed command.id (asked cancel.Sent) clients, []) refl

cancel_found : (found : Option Client) (event : Event) (command : Cancel) (clients : Clients)
    → reported (cancelled_of found event command clients).1 ≡ []
cancel_found None event command clients = refl
cancel_found (Some invite) event command clients =
    cancel_by (cancel_case invite) event command invite clients

pub cancel_asks : (event : Event) (command : Cancel) (side : Side)
    → reported (cancel_by_user event command side).1 ≡ []
cancel_asks event command side =
    cancel_found (client_at command.id side.clients) event command side.clients
