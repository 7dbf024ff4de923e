-- What the user is told of a client request, and what is sent for it.
use Rattle.std.specs.Prelude.{ℕ, List, [], ◌∷◌, Option, None, Some, if◌then◌else◌}
use Rattle.sip_message.specs.Key.{client_key}
use Rattle.sip_message.specs.Party.{tag_of}
use Rattle.sip_message.specs.TopVia.{top_branch}
use Rattle.sip_message.specs.Written.{written}
use Rattle.sip_message.specs.declared.id.Id.{Id}
use Rattle.sip_message.specs.declared.message.Message.{Message}
use Rattle.sip_held_dialogs.specs.declared.held_dialog.DialogReference.{DialogReference}
use Rattle.sip_held_dialogs.specs.declared.held_dialog.DialogId.{DialogId}
use Rattle.sip_user.specs.declared.item.CallOut.{CallOut}
use Rattle.sip_user.specs.declared.item.CallOut.TheVariants as out
use Rattle.sip_user.specs.declared.notice.Notice.TheVariants as notice
use Rattle.sip_user.specs.Notices.{refused}
use Rattle.sip_held_dialogs.specs.Requests.{is_invite}
use Rattle.sip_transactions.specs.declared.input.Command.TheVariants.{Start}
use Rattle.sip_clients.specs.declared.answers.SentAck.{SentAck}
use Rattle.sip_clients.specs.declared.client.RequestKind.{RequestKind}
use Rattle.sip_clients.specs.declared.client.RequestKind.TheVariants.{ReInvite, InDialog}
use Rattle.sip_clients.specs.declared.client.Client.{Client}
use Rattle.sip_clients.specs.declared.event.Event.{Event}
use Rattle.sip_clients.specs.declared.outputs.ClientChange.{ClientChange}
use Rattle.sip_clients.specs.declared.outputs.ClientChange.TheVariants.{Stays, Starts}
use Rattle.sip_clients.specs.declared.reply.ReceivedResponse.{ReceivedResponse}
use Rattle.sip_clients.specs.declared.send_outcome.OutgoingRequest.{OutgoingRequest}
use Rattle.sip_clients.specs.declared.send_outcome.SendOutcome.{SendOutcome}
use Rattle.sip_clients.specs.declared.send_outcome.SendOutcome.TheVariants.{Sent, Waits, Refused}
use Rattle.sip_clients.specs.Client.{client_for}

-- the user is told of a response
abbrev pub response_notice : ReceivedResponse → CallOut
response_notice reply =
    out.Notice (notice.Response reply.call_id reply.id reply.status (tag_of reply.response.from)
    (tag_of reply.response.to) reply.response.body)

-- ---- a request in a dialog

-- what a request in a dialog is for
abbrev pub kind_in : DialogReference → Message → RequestKind
kind_in life message = if is_invite message then ReInvite life else InDialog life

-- the request that is held from then on
abbrev pub client_of : Event → DialogId → OutgoingRequest → Client
client_of event name sending =
    client_for event.id (kind_in record { name = name; created_by = sending.created_by }
    sending.message)
    sending.message sending.to

-- what is told, and the request that is sent
abbrev pub request_said : Event → List ℕ → DialogId → SendOutcome → List CallOut × ClientChange
request_said event call_id name (Sent sending) = ([], Starts (client_of event name sending))
request_said event call_id name Waits = ([], Stays)
request_said event call_id name (Refused refusal) =
    (refused event.id call_id refusal, Stays)

-- a request is sent through a transaction of its own, under this id and the branch of the request
unfoldable pub start_command : Id → Client → CallOut
start_command id client =
    out.Command id
    (Start (client_key (top_branch client.request) ((client.request).cseq).method)
    (client.request).call_id client.request client.to)

-- ---- an ACK

-- an ACK as it goes out
abbrev pub sent_ack : OutgoingRequest → SentAck
sent_ack sending = record { to = sending.to; bytes = written sending.message }

-- an ACK goes out without a transaction (RFC 3261, section 13.2.2.4)
abbrev pub direct : SentAck → CallOut
direct ack = out.Direct ack.to ack.bytes

-- what is told or sent for an ACK, and the ACK if it is sent
abbrev pub ack_said : Event → List ℕ → SendOutcome → List CallOut × Option SentAck
ack_said event call_id (Sent sending) = (direct (sent_ack sending) ∷ [], Some (sent_ack sending))
ack_said event call_id Waits = ([], None)
ack_said event call_id (Refused refusal) = (refused event.id call_id refusal, None)
