-- What happens to a held client request (RFC 3261, sections 9.1, 13.2.2.4 and 17.1.1; RFC 3262,
-- section 4), by the responses to it, the user's commands and what goes out.
use Rattle.std.specs.Prelude.{ℕ, List, filter, filter_map, Option, None, Some}
use Rattle.sip_message.specs.declared.addr.Addr.{Addr}
use Rattle.sip_message.specs.declared.id.Id.{Id}
use Rattle.sip_message.specs.declared.message.Message.{Message}
use Rattle.sip_transactions.specs.declared.input.Command.{Command as Order}
use Rattle.sip_transactions.specs.declared.input.Command.TheVariants as order
use Rattle.sip_held_dialogs.specs.declared.held_dialog.DialogId.{DialogId}
use Rattle.sip_user.specs.declared.item.CallOut.{CallOut}
use Rattle.sip_user.specs.declared.item.CallOut.TheVariants as out
use Rattle.sip_held_dialogs.specs.Requests.{is_cancel}
use Rattle.sip_clients.specs.declared.answers.SentAck.{SentAck}

-- ---- what goes out

-- a request through a transaction of its own: its id, the request, and its address
pub record Outgoing : Type 0 where
  pub id : Id
  pub request : Message
  pub to : Addr

-- the request in a command to a transaction
abbrev pub request_of_order : Id → Order → Option Outgoing
request_of_order id (order.Start key call_id request to) =
    Some record { id = id; request = request; to = to }
request_of_order id (order.Answer key response) = None
request_of_order id (order.Abandon key) = None

-- the request in an output
abbrev pub request_in : CallOut → Option Outgoing
request_in (out.Notice notice) = None
request_in (out.Command id order) = request_of_order id order
request_in (out.Direct to bytes) = None

-- the requests in outputs, in order
abbrev pub requests_out : List CallOut → List Outgoing
requests_out outs = filter_map request_in outs

-- the requests that are CANCELs
abbrev pub cancels_out : List CallOut → List Outgoing
cancels_out outs = filter (λ sent. is_cancel sent.request) (requests_out outs)

-- the ACK in an output; only an ACK goes out without a transaction (RFC 3261, section 13.2.2.4)
abbrev pub ack_in : CallOut → Option SentAck
ack_in (out.Notice notice) = None
ack_in (out.Command id order) = None
ack_in (out.Direct to bytes) = Some record { to = to; bytes = bytes }

-- the ACKs in outputs
abbrev pub acks_out : List CallOut → List SentAck
acks_out outs = filter_map ack_in outs

-- ---- what happens

pub data ClientHappening : Type 0 where
  -- a provisional response to it comes
  GetsProvisional : ClientHappening
  -- the user is told of a reliable provisional response of its dialog, with this RSeq
  TakesReliable : ℕ → ClientHappening
  -- the first 2xx of this dialog comes, at a moment in ms
  GetsSuccess : DialogId → ℕ → ClientHappening
  -- a retransmitted 2xx of this dialog comes
  GetsSuccessAgain : DialogId → ClientHappening
  -- the ACK of the 2xx of this dialog goes out
  SendsAck : DialogId → SentAck → ClientHappening
  -- an ACK answers a retransmitted 2xx of this dialog
  SendsAckAgain : DialogId → SentAck → ClientHappening
  -- the user asks to cancel it, by the event of this id
  AsksCancel : Id → ClientHappening
  -- a CANCEL of it goes out
  SendsCancel : Outgoing → ClientHappening
