-- By one input a call sends at most one ACK, in the dialog of a 2xx (RFC 3261, section 13.2.2.4).
use Rattle.std.specs.Prelude.{◌≡◌, ◌⊎◌, ℕ, Bool, true, false, [], ◌∷◌, Option, Some, is_some}
use Rattle.sip_message.specs.declared.id.Id.{Id}
use Rattle.sip_message.specs.declared.message.Message.{Message}
use Rattle.sip_transactions.specs.declared.output.Up.{Up as AnUp}
use Rattle.sip_transactions.specs.declared.output.UpKind.TheVariants as kind
use Rattle.sip_user.specs.declared.command.DialogBody.{DialogBody}
use Rattle.sip_user.specs.declared.command.UserCommand.TheVariants.{Ack}
use Rattle.sip_user.specs.declared.item.Item.TheVariants.{Up, User}
use Rattle.sip_held_dialogs.specs.Dialogs.{dialog_at}
use Rattle.sip_held_dialogs.specs.Requests.{is_success}
use Rattle.sip_held_dialogs.specs.declared.held_dialog.DialogId.{DialogId}
use Rattle.sip_clients.specs.Answers.{ack_of, has_answer}
use Rattle.sip_clients.specs.Client.{client_at}
use Rattle.sip_clients.specs.ClientLife.{acks_out}
use Rattle.sip_clients.specs.Clients.{reply_name, status_of}
use Rattle.sip_clients.specs.Commands.{name_in}
use Rattle.sip_clients.specs.ReceivedResponse.{is_invite_kind}
use Rattle.sip_clients.specs.declared.answers.SentAck.{SentAck}
use Rattle.sip_clients.specs.declared.client.Client.{Client}
use Rattle.sip_calls.specs.Call.{CallItem, call_step}
use Rattle.sip_calls.specs.Provisionals.{side_held}
use Rattle.sip_calls.specs.declared.call.Call.{Call}
use Rattle.sip_calls.specs.declared.calls.Calls.{Calls}

-- a dialog of the name is held in the call
abbrev pub is_held_in : Option Call → DialogId → Bool
is_held_in call name = is_some (dialog_at name (side_held call).dialogs)

-- an input brings a 2xx to an INVITE that the call holds
pub record BringsSuccess (call : Option Call) (input : Option CallItem) : Type 0 where
  pub event : Id
  pub up : AnUp
  pub response : Message
  pub status : ℕ
  pub invite : Client
  pub brings : input ≡ Some (event, Up up)
  pub response_is : up.kind ≡ kind.Response response
  pub status_is : status_of response.start ≡ Some status
  pub success : is_success status ≡ true
  pub held : client_at up.id (side_held call).clients ≡ Some invite
  pub inviting : is_invite_kind invite.kind ≡ true

-- the dialog of that 2xx
abbrev pub dialog_of : {call : Option Call} {input : Option CallItem} → BringsSuccess call input
    → DialogId
dialog_of brought = reply_name brought.invite.kind brought.invite brought.response

-- Why an input sends an ACK, by the call before and after it.
pub data SendsAck (before after : Option Call) (input : Option CallItem) (ack : SentAck) : Type 0
  where
    -- the user gives it, in a dialog that is held before and after
    ByUser : (event : Id) (command : DialogBody) → input ≡ Some (event, User (Ack command))
        → is_held_in before (name_in command.local_tag command.remote_tag) ≡ true
        → is_held_in after (name_in command.local_tag command.remote_tag) ≡ true
        → SendsAck before after input ack
    -- the first 2xx of a dialog comes; the dialog is held after it
    AtFirst : (brought : BringsSuccess before input)
        → has_answer (dialog_of brought) brought.invite.answers ≡ false
        → is_held_in after (dialog_of brought) ≡ true → SendsAck before after input ack
    -- the 2xx comes again; its ACK goes out as before, even if the dialog has ended since
    Again : (brought : BringsSuccess before input)
        → ack_of (dialog_of brought) brought.invite.answers ≡ Some ack
        → SendsAck before after input ack

-- Whatever is held: an input sends no ACK, or one, for one of these reasons.
abbrev pub OneAckAnInput : Type 0
OneAckAnInput = (calls : Calls) (call : Option Call) (input : Option CallItem) (now : ℕ)
    → let done = call_step calls call input now in
    (acks_out done.1 ≡ [])
    ⊎ ((ack : SentAck) × (acks_out done.1 ≡ ack ∷ []) × SendsAck call done.0 input ack)
