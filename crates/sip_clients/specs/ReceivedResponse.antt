-- A response to a held client request: which case it is (RFC 3261, sections 12.2.1.2, 13.2.2 and
-- 17.1; RFC 3262, section 4).
use Rattle.std.specs.Prelude.{ℕ, Bool, true, false, not, ◌&&◌, ◌==◌, Option, None, Some, if◌then◌else◌}
use Rattle.std.specs.Option.{option_and_then, option_map_or}
use Rattle.sip_message.specs.declared.message.Message.{Message}
use Rattle.sip_reliable.specs.declared.offer.Offer.{Offer}
use Rattle.sip_reliable.specs.declared.offer.Offer.TheVariants.{Taken, Repeat, Gap}
use Rattle.sip_reliable.specs.Inbound.{offered}
use Rattle.sip_held_dialogs.specs.declared.held_dialog.DialogId.{DialogId}
use Rattle.sip_held_dialogs.specs.declared.held_dialog.HeldDialog.{HeldDialog}
use Rattle.sip_held_dialogs.specs.Requests.{is_final, has_to_tag, is_success, requires_100rel}
use Rattle.sip_held_dialogs.specs.Ids.{is_id}
use Rattle.sip_clients.specs.declared.client.RequestKind.{RequestKind}
use Rattle.sip_clients.specs.declared.client.RequestKind.TheVariants.{InitialInvite, ReInvite, InDialog, OutOfDialog}
use Rattle.sip_clients.specs.declared.client.Client.{Client}
use Rattle.sip_clients.specs.declared.reply.ReceivedResponse.{ReceivedResponse}
use Rattle.sip_clients.specs.declared.reply.ReplyCase.{ReplyCase}
use Rattle.sip_clients.specs.declared.reply.ReplyCase.TheVariants.{Repeated, Accepted, Late, Reliable, Passed, Early, Told}
use Rattle.sip_clients.specs.Answers.{has_answer}

-- ---- what is asked of a response

-- an INVITE
abbrev pub is_invite_kind : RequestKind → Bool
is_invite_kind InitialInvite = true
is_invite_kind (ReInvite life) = true
is_invite_kind (InDialog life) = false
is_invite_kind OutOfDialog = false

-- the last response to a request: final, but no 2xx to an INVITE
abbrev pub is_last : RequestKind → ℕ → Bool
is_last kind status = is_final status && not (is_invite_kind kind && is_success status)

-- the dialog of an INVITE is held, or may be made (`found`: the held one of the response's name)
abbrev pub has_dialog : RequestKind → Option HeldDialog → Bool
has_dialog InitialInvite found = true
has_dialog (ReInvite life) found =
    option_map_or (λ (held : HeldDialog). is_id held.created_by life.created_by) found false
has_dialog (InDialog life) found = false
has_dialog OutOfDialog found = false

-- the last RSeq that was taken in the same dialog for the same INVITE
abbrev pub heard_of : RequestKind → Client → Option HeldDialog → Option ℕ
heard_of InitialInvite client found = option_and_then (λ held. held.last_rseq) found
heard_of (ReInvite life) client found = client.last_rseq
heard_of (InDialog life) client found = client.last_rseq
heard_of OutOfDialog client found = client.last_rseq

-- the RSeq of a reliable provisional response: it requires `100rel` and has an RSeq
abbrev pub rseq_of : Message → Option ℕ
rseq_of response = if requires_100rel response then response.rseq else None

-- the response is of a dialog: no 100, and with a To tag
abbrev pub is_dialog_response : ReceivedResponse → Bool
is_dialog_response reply = not (reply.status == 100) && has_to_tag reply.response

-- ---- which case it is

-- a 2xx to an INVITE: it came before; its dialog is held or begins; or it comes too late
abbrev pub success_case : Client → Option HeldDialog → DialogId → ReplyCase
success_case client found name =
    if has_answer name client.answers then Repeated
    else if has_dialog client.kind found then Accepted
    else Late

-- a reliable provisional response is the next one by its RSeq, or it is dropped (RFC 3262, section
-- 4)
abbrev pub offer_case : Offer → ℕ → ReplyCase
offer_case Taken rseq = Reliable rseq
offer_case Repeat rseq = Passed
offer_case Gap rseq = Passed

-- a provisional response of a dialog, by the latest RSeq and by its own, if it has one
abbrev pub reliable_case : Option ℕ → Option ℕ → ReplyCase
reliable_case last_rseq None = Early
reliable_case last_rseq (Some rseq) = offer_case (offered last_rseq rseq) rseq

-- the case of a response that isn't the last: the first that fits
abbrev pub reply_case : Client → Option HeldDialog → ReceivedResponse → ReplyCase
reply_case client found reply =
    if is_final reply.status then success_case client found reply.name
    else if is_dialog_response reply && has_dialog client.kind found
    then reliable_case (heard_of client.kind client found) (rseq_of reply.response)
    else Told
