-- What a call does with the first 2xx to an INVITE of the agent in a dialog (RFC 3261, section
-- 13.2.2.4).
use Rattle.std.specs.Prelude.{◌≡◌, ◌⊎◌, ℕ, Bool, true, false, ◌&&◌, ◌==◌, not, List, [], ◌∷◌, Option, Some, length}
use Rattle.std.specs.List.{list_any}
use Rattle.std.specs.Option.{option_map_or}
use Rattle.sip_message.specs.Party.{tag_of}
use Rattle.sip_message.specs.declared.addr.Addr.{Addr}
use Rattle.sip_message.specs.declared.id.Id.{Id}
use Rattle.sip_message.specs.declared.message.Message.{Message}
use Rattle.sip_transactions.specs.declared.output.Up.{Up as AnUp}
use Rattle.sip_transactions.specs.declared.output.UpKind.TheVariants as kind
use Rattle.sip_user.specs.declared.item.CallOut.{CallOut}
use Rattle.sip_user.specs.declared.item.CallOut.TheVariants.{Direct, Notice}
use Rattle.sip_user.specs.declared.item.Item.TheVariants.{Up}
use Rattle.sip_user.specs.declared.notice.Notice.TheVariants.{Response}
use Rattle.sip_user.specs.declared.refusal.Refusal.{Refusal}
use Rattle.sip_user.specs.Notices.{refused}
use Rattle.sip_held_dialogs.specs.declared.held_dialog.DialogId.{DialogId}
use Rattle.sip_held_dialogs.specs.declared.pending_request.PendingRequest.{PendingRequest}
use Rattle.sip_held_dialogs.specs.declared.pending_request.PendingRequest.TheVariants.{Ack, Prack}
use Rattle.sip_held_dialogs.specs.Dialogs.{dialog_at, lives}
use Rattle.sip_held_dialogs.specs.Ids.{is_id}
use Rattle.sip_held_dialogs.specs.Requests.{is_success}
use Rattle.sip_clients.specs.Answers.{has_answer}
use Rattle.sip_clients.specs.Client.{client_at}
use Rattle.sip_clients.specs.Clients.{reply_name}
use Rattle.sip_clients.specs.Rules.Requests.{dialog_of_kind, is_invite_kind}
use Rattle.sip_clients.specs.Rules.Responses.{status_of}
use Rattle.sip_clients.specs.declared.client.Client.{Client}
use Rattle.sip_calls.specs.declared.call.Call.{Call}
use Rattle.sip_calls.specs.declared.calls.Calls.{Calls}
use Rattle.sip_calls.specs.Call.{Taken, call_step}
use Rattle.sip_calls.specs.Provisionals.{side_held}

-- the ACK of this INVITE waits in the dialog of this name for the application to give it
abbrev pub is_ack_of : Id → PendingRequest → Bool
is_ack_of invite (Ack own number) = is_id own invite
is_ack_of invite (Prack rseq number) = false

abbrev pub owes_ack : Id → DialogId → Option Call → Bool
owes_ack invite name call =
    option_map_or (λ held. list_any (is_ack_of invite) held.pending_requests)
    (dialog_at name (side_held call).dialogs) false

-- the 2xx has an SDP offer, as the INVITE had none: only the application can answer it, in the ACK
-- (section 13.2.1; own: any body counts as SDP)
abbrev pub has_offer : Client → Message → Bool
has_offer invite response = (length invite.request.body == 0) && not (length response.body == 0)

-- With an offer the ACK is owed to the application. Without one it goes out; or the agent refuses
-- to send it, tells why, and the ACK is owed.
pub record IsAcknowledged (event : Id) (up : AnUp) (invite : Client) (response : Message)
    (taken : Taken) (outs : List CallOut) : Type 0 where
  pub offer : has_offer invite response ≡ true → (outs ≡ [])
      × (owes_ack invite.id (reply_name invite.kind invite response) taken.0 ≡ true)
  pub no_offer : has_offer invite response ≡ false
      → ((to : Addr) × (bytes : List ℕ) × (outs ≡ Direct to bytes ∷ []))
      ⊎ ((why : Refusal) × (outs ≡ refused event up.call_id why)
      × (owes_ack invite.id (reply_name invite.kind invite response) taken.0 ≡ true))

-- first the user is told of the 2xx; then comes its ACK
pub record IsReported (event : Id) (up : AnUp) (response : Message) (status : ℕ) (invite : Client)
    (taken : Taken) : Type 0 where
  pub others : List CallOut
  pub told : taken.1 ≡ Notice (Response up.call_id up.id status (tag_of response.from)
      (tag_of response.to) response.body) ∷ others
  pub acknowledged : IsAcknowledged event up invite response taken others

-- the first 2xx in a dialog comes to an INVITE that is held; a re-INVITE's dialog is held too
pub record ComesFirst (call : Call) (up : AnUp) (response : Message) (status : ℕ) (invite : Client)
    : Type 0 where
  pub came : up.kind ≡ kind.Response response
  pub status_is : status_of response.start ≡ Some status
  pub success : is_success status ≡ true
  pub held : client_at up.id call.clients ≡ Some invite
  pub invites : is_invite_kind invite.kind ≡ true
  pub first : has_answer (reply_name invite.kind invite response) invite.answers ≡ false
  pub lives : option_map_or (lives (call.served).dialogs) (dialog_of_kind invite.kind) true ≡ true

-- Whatever is held: such a 2xx is reported and acknowledged so.
abbrev pub FirstSuccessIsAcknowledged : Type 0
FirstSuccessIsAcknowledged = (calls : Calls) (call : Call) (event : Id) (up : AnUp)
    (response : Message) (status now : ℕ) (invite : Client)
    → ComesFirst call up response status invite
    → IsReported event up response status invite
    (call_step calls (Some call) (Some (event, Up up)) now)
