-- The client side of one Call-ID: what each response, failure, timeout and command does to the held
-- dialogs and the held client requests, and what is told.
use Rattle.std.specs.Prelude.{ℕ, Bool, List, [], ◌∷◌, ◌++◌, Option, None, Some, Result, Ok, Err, if◌then◌else◌}
use Rattle.std.specs.Map.{set_value}
use Rattle.indexmap.specs.IndexMap.{insert_entry}
use Rattle.sip_message.specs.declared.id.Id.{Id}
use Rattle.sip_message.specs.declared.message.Message.{Message}
use Rattle.sip_message.specs.declared.start_line.StartLine.{StartLine}
use Rattle.sip_message.specs.declared.start_line.StartLine.TheVariants as start
use Rattle.sip_message.specs.Party.{tag_of}
use Rattle.sip_user.specs.declared.command.DialogBody.{DialogBody}
use Rattle.sip_user.specs.declared.command.DialogRequest.{DialogRequest}
use Rattle.sip_user.specs.declared.command.Invite.{Invite}
use Rattle.sip_user.specs.declared.command.Plain.{Plain as PlainCommand}
use Rattle.sip_held_dialogs.specs.declared.pending_request.PendingRequest.{PendingRequest}
use Rattle.sip_held_dialogs.specs.declared.pending_request.PendingRequest.TheVariants.{Ack, Prack}
use Rattle.sip_held_dialogs.specs.declared.held_dialog.DialogId.{DialogId}
use Rattle.sip_user.specs.declared.item.CallOut.{CallOut}
use Rattle.sip_user.specs.declared.refusal.Refusal.{Refusal}
use Rattle.sip_user.specs.declared.refusal.Refusal.TheVariants.{BadMethod}
use Rattle.sip_held_dialogs.specs.Dialogs.{is_dialog_id}
use Rattle.sip_user.specs.Notices.{refused}
use Rattle.sip_held_dialogs.specs.Requests.{is_final, dialog_id_of_tags}
use Rattle.sip_held_dialogs.specs.Ids.{is_id}
use Rattle.sip_clients.specs.declared.answers.SentAck.{SentAck}
use Rattle.sip_clients.specs.declared.client.RequestKind.{RequestKind}
use Rattle.sip_clients.specs.declared.client.RequestKind.TheVariants.{InitialInvite, ReInvite, InDialog, OutOfDialog}
use Rattle.sip_clients.specs.declared.client.Client.{Client}
use Rattle.sip_clients.specs.declared.pending.PendingKind.TheVariants as kind
use Rattle.sip_clients.specs.declared.event.Event.{Event}
use Rattle.sip_clients.specs.declared.outputs.ClientChange.{ClientChange}
use Rattle.sip_clients.specs.declared.outputs.ClientChange.TheVariants.{Stays, Over, Starts}
use Rattle.sip_clients.specs.declared.reply.ReceivedResponse.{ReceivedResponse}
use Rattle.sip_clients.specs.Cancel.{cancel_freed, after_response, sent_beside}
use Rattle.sip_clients.specs.Client.{Clients, Side, ClientTaken, client_at, client_changed, client_for, nothing_done, with_client, without_client}
use Rattle.sip_clients.specs.Commands.{ack_asked, pending_for, is_bad_outside, name_in, prack_asked, request_asked}
use Rattle.sip_clients.specs.Dialogs.{ended_with}
use Rattle.sip_clients.specs.Outputs.{start_command}
use Rattle.sip_clients.specs.Outside.{invite_of, plain_of}
use Rattle.sip_clients.specs.Replied.{Replied, reply_taken}

-- a request is sent
abbrev pub started : Event → Client → Clients → Clients × List CallOut
started event client clients =
    (with_client event.id client clients, start_command event.id client ∷ [])

-- the requests after a response to that of this id, or after a command
abbrev pub settled : Event → Id → ClientChange → Clients → Clients × List CallOut
settled event id Stays clients = (clients, [])
settled event id Over clients = (without_client id clients, [])
settled event id (Starts client) clients = started event client clients

-- ---- a response

-- the name of the dialog that a response makes, or that its request was sent in
abbrev pub reply_name : RequestKind → Client → Message → DialogId
reply_name InitialInvite client response =
    dialog_id_of_tags (tag_of (client.request).from) (tag_of response.to)
reply_name (ReInvite life) client response = life.name
reply_name (InDialog life) client response = life.name
reply_name OutOfDialog client response =
    dialog_id_of_tags (tag_of (client.request).from) (tag_of response.to)

-- the status of a response
abbrev pub status_of : StartLine → Option ℕ
status_of (start.Request uri) = None
status_of (start.Response status reason) = Some status

-- the requests and the outputs after their change, and after the CANCEL that waited for the
-- response
abbrev pub reply_ended : Event → Id → ClientChange → Option Client → Clients → List CallOut
    → Clients × List CallOut
reply_ended event id change cancel clients told =
    let after = settled event id change clients in sent_beside cancel (after.0, told ++ after.1)

-- what is held and told after a response that did this to the request of this id and to the dialogs
abbrev pub side_after : Event → Id → Side → Option Client → Replied → ClientTaken
side_after event id side cancel done =
    let clients = set_value (is_id id) side.clients done.0 in
    let after = reply_ended event id done.3 cancel clients done.2 in
    (record { dialogs = done.1; clients = after.0 }, after.1)

-- a response to this request
abbrev pub reply_settled : ReceivedResponse → Client → Side → ClientTaken
reply_settled reply client side =
    let final = is_final reply.status in
    side_after reply.event reply.id side (cancel_freed final client)
    (reply_taken (after_response final client) side.dialogs reply)

-- a response with all that its case needs
abbrev pub reply_of : Event → Id → List ℕ → DialogId → ℕ → Message → ReceivedResponse
reply_of event id call_id name status response = record {
  event = event;
  id = id;
  call_id = call_id;
  name = name;
  status = status;
  response = response;
}

-- a response to a held request, or to none
abbrev pub found_taken : Event → Id → List ℕ → Message → Option ℕ → Option Client → Side
    → ClientTaken
found_taken event id call_id response None client side = nothing_done side
found_taken event id call_id response (Some status) None side = nothing_done side
found_taken event id call_id response (Some status) (Some client) side =
    let name = reply_name client.kind client response in
    reply_settled (reply_of event id call_id name status response) client side

-- a response that comes up; if its request isn't held, nothing happens
abbrev pub response_taken : Event → Id → List ℕ → Message → Side → ClientTaken
response_taken event id call_id response side =
    found_taken event id call_id response (status_of response.start) (client_at id side.clients)
    side

-- ---- a request is lost: its transaction timed out, or its message could not be sent

-- a request that timed out, or could not be sent, is over, with all that ends with it
abbrev pub lost_of : Id → Bool → Option Client → Side → ClientTaken
lost_of id timed_out None side =
    (record { dialogs = side.dialogs; clients = without_client id side.clients }, [])
lost_of id timed_out (Some client) side =
    let ended = ended_with client timed_out side.dialogs in
    (record { dialogs = ended.0; clients = without_client id side.clients }, ended.1)

-- the request of this id is lost
abbrev pub request_lost : Id → Bool → Side → ClientTaken
request_lost id timed_out side = lost_of id timed_out (client_at id side.clients) side

-- ---- commands outside of dialogs

-- the command Invite: an INVITE goes out and is held
abbrev pub invite_taken : Event → Invite → Clients → Clients × List CallOut
invite_taken event invite clients =
    started event (client_for event.id InitialInvite (invite_of event invite) invite.address)
    clients

-- the command Plain: a request outside of dialogs, unless the user can't send its method
abbrev pub plain_taken : Event → PlainCommand → Clients → Clients × List CallOut
plain_taken event plain clients =
    if is_bad_outside plain.method then (clients, refused event.id plain.call_id BadMethod)
    else started event (client_for event.id OutOfDialog (plain_of event plain) plain.address)
    clients

-- ---- commands in a dialog

-- the outputs: what is told, what is sent, and then the ends of dialogs
abbrev pub request_settled : Event → List CallOut → ClientChange → List CallOut → Clients
    → Clients × List CallOut
request_settled event outs change ends clients =
    let after = settled event event.id change clients in (after.0, outs ++ after.1 ++ ends)

-- the command Request: a request in a dialog
abbrev pub request_by_user : Event → DialogRequest → Side → ClientTaken
request_by_user event command side =
    let told = request_asked event (name_in command.local_tag command.remote_tag) command
    side.dialogs in
    let after = request_settled event told.1 told.2 told.3 side.clients in
    (record { dialogs = told.0; clients = after.0 }, after.1)

-- the INVITE keeps the user's ACK for its 2xx
abbrev pub acked_with : DialogId → SentAck → Client → Client
acked_with name ack client =
    record client { answers = insert_entry is_dialog_id client.answers name (Some ack) }

-- the ACK is kept, to be sent again if the 2xx is retransmitted
abbrev pub ack_kept : PendingRequest → DialogId → Option SentAck → Clients → Clients
ack_kept (Ack invite number) name None clients = clients
ack_kept (Ack invite number) name (Some ack) clients =
    client_changed invite (acked_with name ack) clients
ack_kept (Prack rseq number) name ack clients = clients

-- the user's ACK for a 2xx that waits for it
abbrev pub ack_paid : Event → DialogBody → DialogId → PendingRequest → Side → ClientTaken
ack_paid event command name pending side =
    let told = ack_asked event name pending command side.dialogs in
    (record { dialogs = told.0; clients = ack_kept pending name told.2 side.clients }, told.1)

-- the user's PRACK for a response that waits for it
abbrev pub prack_paid : Event → DialogBody → DialogId → PendingRequest → Side → ClientTaken
prack_paid event command name pending side =
    let told = prack_asked event name pending command side.dialogs in
    let after = settled event event.id told.2 side.clients in
    (record { dialogs = told.0; clients = after.0 }, told.1 ++ after.1)

-- if nothing is owed the command is refused
abbrev pub paid_or_refused : Event → DialogBody → (PendingRequest → Side → ClientTaken)
    → Result PendingRequest Refusal
    → Side
    → ClientTaken
paid_or_refused event command send_pending (Err refusal) side =
    (side, refused event.id command.call_id refusal)
paid_or_refused event command send_pending (Ok pending) side = send_pending pending side

-- the command Ack, for the oldest 2xx of its dialog without an ACK
abbrev pub ack_by_user : Event → DialogBody → Side → ClientTaken
ack_by_user event command side =
    let name = name_in command.local_tag command.remote_tag in
    paid_or_refused event command (ack_paid event command name)
    (pending_for kind.Ack name side.dialogs) side

-- the command Prack, for the oldest reliable response of its dialog without a PRACK
abbrev pub prack_by_user : Event → DialogBody → Side → ClientTaken
prack_by_user event command side =
    let name = name_in command.local_tag command.remote_tag in
    paid_or_refused event command (prack_paid event command name)
    (pending_for kind.Prack name side.dialogs) side
