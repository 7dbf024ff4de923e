-- What a response, or the end of a client request, does to the held dialogs (RFC 3261, sections
-- 12.1.2, 12.2.1.2 and 13.2.2).
use Rattle.std.specs.Prelude.{ℕ, Bool, List, [], ◌++◌, Option, None, Some, if◌then◌else◌}
use Rattle.std.specs.Map.{set_value}
use Rattle.std.specs.Option.{option_map_or}
use Rattle.sip_dialog.specs.Opening.{contact_uri, opened_by_response}
use Rattle.sip_message.specs.Content.{Content}
use Rattle.sip_message.specs.declared.message.Message.{Message}
use Rattle.sip_reliable.specs.Inbound.{latest_after, offered}
use Rattle.sip_held_dialogs.specs.declared.pending_request.PendingRequest.{PendingRequest}
use Rattle.sip_held_dialogs.specs.declared.held_dialog.DialogReference.{DialogReference}
use Rattle.sip_held_dialogs.specs.declared.held_dialog.DialogId.{DialogId}
use Rattle.sip_held_dialogs.specs.declared.held_dialog.HeldDialog.{HeldDialog}
use Rattle.sip_user.specs.declared.item.CallOut.{CallOut}
use Rattle.sip_held_dialogs.specs.Dialogs.{confirmed, dialog_at, early_ended, ended_at, is_dialog_id, lives, retargeted, Dialogs}
use Rattle.sip_clients.specs.declared.client.RequestKind.{RequestKind}
use Rattle.sip_clients.specs.declared.client.RequestKind.TheVariants.{InitialInvite, ReInvite, InDialog, OutOfDialog}
use Rattle.sip_clients.specs.declared.client.Client.{Client}
use Rattle.sip_clients.specs.declared.event.Event.{Event}
use Rattle.sip_clients.specs.declared.reply.ReceivedResponse.{ReceivedResponse}
use Rattle.sip_clients.specs.declared.send_outcome.SendOutcome.{SendOutcome}
use Rattle.sip_clients.specs.declared.send_outcome.SendOutcome.TheVariants.{Waits}
use Rattle.sip_clients.specs.Pending.{sent_pending}
use Rattle.sip_clients.specs.SendOutcome.{Outcome}

-- ---- how a dialog is made (RFC 3261, section 12.1.2)

-- the dialog that a response makes (RFC 3261, section 12.1.2)
abbrev pub dialog_by_response : Client → ReceivedResponse → HeldDialog
dialog_by_response client reply = record {
  dialog = opened_by_response client.request reply.response;
  address = client.to;
  invite = client.id;
  created_by = reply.event.id;
  last_rseq = None;
  pending_requests = [];
}

-- the dialog of a provisional response: the held one of its name, or one that it makes
abbrev pub dialog_for_provisional : Client → ReceivedResponse → Option HeldDialog → HeldDialog
dialog_for_provisional client reply None = dialog_by_response client reply
dialog_for_provisional client reply (Some held) = held

-- ---- a 2xx

-- the 2xx to a re-INVITE refreshes the target if it has a Contact
abbrev pub refreshed : Message → HeldDialog → HeldDialog
refreshed response held = retargeted (contact_uri response) held

-- the 2xx to the first INVITE confirms the dialog of its name
abbrev pub accepted_in : RequestKind → Message → HeldDialog → HeldDialog
accepted_in InitialInvite response held = confirmed response held
accepted_in (ReInvite life) response held = refreshed response held
accepted_in (InDialog life) response held = held
accepted_in OutOfDialog response held = held

-- the dialog after the first 2xx of its name
abbrev pub accepted : Client → ReceivedResponse → Option HeldDialog → HeldDialog
accepted client reply None = dialog_by_response client reply
accepted client reply (Some held) = accepted_in client.kind reply.response held

-- ---- what comes and is sent in a dialog

-- a reliable provisional response with this RSeq came
abbrev pub hearing : ℕ → HeldDialog → HeldDialog
hearing rseq held =
    record held { last_rseq = latest_after (offered held.last_rseq rseq) held.last_rseq rseq }

-- a request to send in the dialog of this name, if that is held: the dialogs, and the outcome
abbrev pub served_at : DialogId → (HeldDialog → Outcome) → SendOutcome → Dialogs → Dialogs
    × SendOutcome
served_at name serve otherwise dialogs =
    option_map_or (λ held. (set_value (is_dialog_id name) dialogs (serve held).0, (serve held).1))
    (dialog_at name dialogs) (dialogs, otherwise)

-- the same for an ACK or PRACK that is owed in it
abbrev pub paid_at : DialogId → Event → PendingRequest → Content → Dialogs → Dialogs × SendOutcome
paid_at name event pending content dialogs =
    served_at name (sent_pending event pending content) Waits dialogs

-- ---- what ends with a client request

-- the dialog of this reference ends, if it is still held
abbrev pub life_ended : DialogReference → Dialogs → Dialogs × List CallOut
life_ended life dialogs = if lives dialogs life then ended_at life.name dialogs else (dialogs, [])

-- the dialog that the request was sent in ends, if the condition is true
abbrev pub own_ended : RequestKind → Bool → Dialogs → Dialogs × List CallOut
own_ended InitialInvite ends dialogs = (dialogs, [])
own_ended (ReInvite life) ends dialogs = if ends then life_ended life dialogs else (dialogs, [])
own_ended (InDialog life) ends dialogs = if ends then life_ended life dialogs else (dialogs, [])
own_ended OutOfDialog ends dialogs = (dialogs, [])

-- the early dialogs that the request made end, and then that one
abbrev pub ended_with : Client → Bool → Dialogs → Dialogs × List CallOut
ended_with client ends dialogs =
    let early = early_ended client.id dialogs in
    let own = own_ended client.kind ends early.0 in
    (own.0, early.1 ++ own.1)
