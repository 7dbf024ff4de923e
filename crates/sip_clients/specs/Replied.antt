-- What a response does to its client request and to the held dialogs, and what is told (RFC 3261,
-- sections 12.2.1.2, 13.2.2 and 13.2.2.4; RFC 3262, section 4; RFC 6026, section 7.2).
use Rattle.std.specs.Prelude.{ℕ, ◌+◌, Bool, not, ◌||◌, ◌==◌, List, [], ◌∷◌, ◌++◌, length, Option, None, Some, unwrap_or, if◌then◌else◌}
use Rattle.std.specs.Option.{option_map_or}
use Rattle.indexmap.specs.IndexMap.{insert_entry}
use Rattle.sip_message.specs.Content.{Content, content_of_body}
use Rattle.sip_message.specs.declared.message.Message.{Message}
use Rattle.sip_reliable.specs.Inbound.{latest_after, offered}
use Rattle.sip_held_dialogs.specs.declared.pending_request.PendingRequest.TheVariants.{Ack, Prack}
use Rattle.sip_held_dialogs.specs.declared.held_dialog.DialogId.{DialogId}
use Rattle.sip_held_dialogs.specs.declared.held_dialog.HeldDialog.{HeldDialog}
use Rattle.sip_user.specs.declared.item.CallOut.{CallOut}
use Rattle.sip_held_dialogs.specs.Dialogs.{dialog_at, is_dialog_id, Dialogs}
use Rattle.sip_timers.specs.declared.estimate.TheConstants.{LIFETIME}
use Rattle.sip_clients.specs.declared.answers.SentAck.{SentAck}
use Rattle.sip_clients.specs.declared.client.RequestKind.{RequestKind}
use Rattle.sip_clients.specs.declared.client.RequestKind.TheVariants.{InitialInvite, ReInvite, InDialog, OutOfDialog}
use Rattle.sip_clients.specs.declared.client.Client.{Client}
use Rattle.sip_clients.specs.declared.outputs.ClientChange.{ClientChange}
use Rattle.sip_clients.specs.declared.outputs.ClientChange.TheVariants.{Stays, Over}
use Rattle.sip_clients.specs.declared.reply.ReceivedResponse.{ReceivedResponse}
use Rattle.sip_clients.specs.declared.reply.ReplyCase.{ReplyCase}
use Rattle.sip_clients.specs.declared.reply.ReplyCase.TheVariants as reply
use Rattle.sip_clients.specs.declared.send_outcome.SendOutcome.{SendOutcome}
use Rattle.sip_clients.specs.Answers.{ack_of}
use Rattle.sip_clients.specs.Pending.{kept_pending}
use Rattle.sip_clients.specs.Dialogs.{accepted, ended_with, hearing, dialog_for_provisional}
use Rattle.sip_clients.specs.Outputs.{ack_said, direct, request_said, response_notice}
use Rattle.sip_clients.specs.ReceivedResponse.{is_last, reply_case}

-- the client request and the dialogs after a response, what is told, and how the requests change
abbrev pub Replied : Type 0
Replied = Client × Dialogs × List CallOut × ClientChange

-- the same for the one dialog that a response may change: that dialog afterwards, if it is changed
-- or made
abbrev pub InOneDialog : Type 0
InOneDialog = Client × Option HeldDialog × List CallOut × ClientChange

-- the user is told of it
abbrev pub notice : ReceivedResponse → List CallOut
notice answer = response_notice answer ∷ []

-- ---- a final response

-- the peer doesn't know the dialog, or doesn't answer (RFC 3261, section 12.2.1.2)
abbrev pub ends_dialog : ℕ → Bool
ends_dialog status = (status == 481) || (status == 408)

-- the request is over, with all that ends with it
abbrev pub request_over : Client → Dialogs → ReceivedResponse → Replied
request_over client dialogs answer =
    let ended = ended_with client (ends_dialog answer.status) dialogs in
    (client, ended.0, notice answer ++ ended.1, Over)

-- ---- a reliable provisional response

-- the dialog of a first INVITE keeps the RSeq that came in it; an INVITE in a dialog keeps its own
abbrev pub heard_first : RequestKind → ℕ → HeldDialog → HeldDialog
heard_first InitialInvite rseq held = hearing rseq held
heard_first (ReInvite life) rseq held = held
heard_first (InDialog life) rseq held = held
heard_first OutOfDialog rseq held = held

-- this RSeq is the latest of the responses to the request
abbrev pub hears : ℕ → Client → Client
hears rseq client =
    record client { last_rseq = latest_after (offered client.last_rseq rseq) client.last_rseq rseq }

-- the same, unless the request opens a call: then the dialog keeps the RSeq
abbrev pub heard_again : RequestKind → ℕ → Client → Client
heard_again InitialInvite rseq client = client
heard_again (ReInvite life) rseq client = hears rseq client
heard_again (InDialog life) rseq client = hears rseq client
heard_again OutOfDialog rseq client = hears rseq client

-- What a response asks for has no body if the INVITE had an offer or the response has no body.
-- Otherwise it must carry the answer to the offer in the response, which the user gives (RFC 3261,
-- section 13.2.1; RFC 3262, section 5).
abbrev pub automatic_body : Client → Message → Option Content
automatic_body client response =
    if not (length (client.request).body == 0) || (length response.body == 0)
    then Some (content_of_body []) else None

-- the PRACK of a response is owed, or sent
unfoldable pub prack_owed : ℕ → Client → HeldDialog → ReceivedResponse → HeldDialog × SendOutcome
prack_owed rseq client held answer =
    kept_pending answer.event (Prack rseq ((client.request).cseq).number)
    (automatic_body client answer.response) (heard_first client.kind rseq held)

-- what is told and sent, and the PRACK
abbrev pub told_of_prack : ReceivedResponse → SendOutcome → List CallOut × ClientChange
told_of_prack answer outcome =
    let said = request_said answer.event answer.call_id answer.name outcome in
    (notice answer ++ said.0, said.1)

-- a reliable response that is the next of its dialog: the user is told, and its PRACK is owed or
-- sent
abbrev pub reliable : ℕ → Client → HeldDialog → ReceivedResponse → InOneDialog
reliable rseq client held answer =
    let pending_requests = prack_owed rseq client held answer in
    let told = told_of_prack answer pending_requests.1 in
    (heard_again client.kind rseq client, Some pending_requests.0, told.0, told.1)

-- ---- a 2xx to an INVITE

-- the ACK of a 2xx goes out again, the same bytes to the same address
abbrev pub ack_again : Client → ReceivedResponse → List CallOut
ack_again client answer =
    option_map_or (λ ack. direct ack ∷ []) (ack_of answer.name client.answers) []

-- the INVITE is held for 64*T1 after its first 2xx
abbrev pub held_after_success : ReceivedResponse → Option SentAck → Client → Client
held_after_success answer ack client = record client {
  answers = insert_entry is_dialog_id client.answers answer.name ack;
  removal = Some (unwrap_or client.removal ((answer.event).moment + LIFETIME));
}

-- the ACK of a 2xx is owed, or sent
unfoldable pub ack_owed : Client → HeldDialog → ReceivedResponse → HeldDialog × SendOutcome
ack_owed client held answer =
    kept_pending answer.event (Ack client.id ((client.request).cseq).number)
    (automatic_body client answer.response) held

-- what is told and sent, and the ACK
abbrev pub told_of_ack : ReceivedResponse → SendOutcome → List CallOut × Option SentAck
told_of_ack answer outcome =
    let said = ack_said answer.event answer.call_id outcome in (notice answer ++ said.0, said.1)

-- the first 2xx of a dialog: the user is told, and its ACK is owed or sent
abbrev pub accepted_by_ack : Client → HeldDialog → ReceivedResponse → InOneDialog
accepted_by_ack client held answer =
    let pending_requests = ack_owed client held answer in
    let told = told_of_ack answer pending_requests.1 in
    (held_after_success answer told.1 client, Some pending_requests.0, told.0, Stays)

-- ---- all of it

-- a response of this case, by the held dialog of its name, if there is one
abbrev pub by_reply_case : ReplyCase → Client → Option HeldDialog → ReceivedResponse → InOneDialog
by_reply_case reply.Repeated client found answer = (client, None, ack_again client answer, Stays)
by_reply_case reply.Accepted client found answer =
    accepted_by_ack client (accepted client answer found) answer
by_reply_case reply.Late client found answer =
    (held_after_success answer None client, None, notice answer, Stays)
by_reply_case (reply.Reliable rseq) client found answer =
    reliable rseq client (dialog_for_provisional client answer found) answer
by_reply_case reply.Passed client found answer = (client, None, [], Stays)
by_reply_case reply.Early client found answer =
    (client, Some (dialog_for_provisional client answer found), notice answer, Stays)
by_reply_case reply.Told client found answer = (client, None, notice answer, Stays)

-- a response that isn't the last, in the dialog of its name if that is held
abbrev pub replied_in : Client → Option HeldDialog → ReceivedResponse → InOneDialog
replied_in client found answer = by_reply_case (reply_case client found answer) client found answer

-- the dialogs with this one, if any, under its name
abbrev pub dialogs_with : DialogId → Option HeldDialog → Dialogs → Dialogs
dialogs_with name None dialogs = dialogs
dialogs_with name (Some held) dialogs = insert_entry is_dialog_id dialogs name held

-- the dialogs with that one afterwards
abbrev pub after_dialog : DialogId → Dialogs → InOneDialog → Replied
after_dialog name dialogs done = (done.0, dialogs_with name done.1 dialogs, done.2, done.3)

-- the last response ends its request; any other is taken case by case
abbrev pub reply_taken : Client → Dialogs → ReceivedResponse → Replied
reply_taken client dialogs answer =
    if is_last client.kind answer.status then request_over client dialogs answer
    else after_dialog answer.name dialogs
    (replied_in client (dialog_at answer.name dialogs) answer)

-- the same with the held dialog afterwards, changed or not
abbrev pub in_place : HeldDialog → InOneDialog → Client × HeldDialog × List CallOut × ClientChange
in_place held done = (done.0, unwrap_or done.1 held, done.2, done.3)
