-- What is owed in the held dialog of a name after a response, and after a command of the user, by
-- the outputs (RFC 3261, section 13.2.2.4; RFC 3262, section 4).
use Rattle.std.specs.Prelude.{ℕ, Bool, true, false, not, ◌&&◌, List, [], ◌∷◌, Option, Some, codes, filter, find, if◌then◌else◌}
use Rattle.std.specs.List.{list_any}
use Rattle.std.specs.Option.{option_map, option_map_or}
use Rattle.std.specs.Str.{bytes_eq}
use Rattle.sip_message.specs.declared.cseq.CSeq.{CSeq}
use Rattle.sip_message.specs.declared.id.Id.{Id}
use Rattle.sip_message.specs.declared.message.Message.{Message}
use Rattle.sip_user.specs.declared.command.DialogBody.{DialogBody}
use Rattle.sip_held_dialogs.specs.declared.pending_request.PendingRequest.{PendingRequest}
use Rattle.sip_held_dialogs.specs.declared.pending_request.PendingRequest.TheVariants.{Ack, Prack}
use Rattle.sip_held_dialogs.specs.declared.held_dialog.DialogId.{DialogId}
use Rattle.sip_held_dialogs.specs.declared.held_dialog.HeldDialog.{HeldDialog}
use Rattle.sip_user.specs.declared.item.CallOut.{CallOut}
use Rattle.sip_user.specs.declared.item.CallOut.TheVariants as out
use Rattle.sip_held_dialogs.specs.Dialogs.{is_dialog_id}
use Rattle.sip_held_dialogs.specs.Requests.{is_success}
use Rattle.sip_held_dialogs.specs.Sent.{cseqs_in}
use Rattle.sip_clients.specs.declared.client.Client.{Client}
use Rattle.sip_clients.specs.declared.pending.PendingKind.{PendingKind}
use Rattle.sip_clients.specs.declared.pending.PendingKind.TheVariants as kind
use Rattle.sip_clients.specs.Client.{Clients, client_at}
use Rattle.sip_clients.specs.Clients.{reply_name, status_of}
use Rattle.sip_clients.specs.Commands.{name_in}
use Rattle.sip_clients.specs.Pending.{is_of, is_same_pending}
use Rattle.sip_clients.specs.Provisionals.{is_response, provisional_number}
use Rattle.sip_clients.specs.ReceivedResponse.{has_dialog}

-- ---- what goes out

-- an ACK; only an ACK goes out without a transaction
abbrev pub is_direct : CallOut → Bool
is_direct (out.Direct to bytes) = true
is_direct _ = false

-- the CSeq of a PRACK
abbrev pub is_of_prack : CSeq → Bool
is_of_prack cseq = bytes_eq cseq.method (codes "PRACK")

-- an ACK goes out, or a PRACK in the dialog of the name
abbrev pub goes_out : PendingKind → DialogId → List CallOut → Bool
goes_out kind.Ack name outs = list_any is_direct outs
goes_out kind.Prack name outs = list_any is_of_prack (cseqs_in name outs)

-- ---- a response

-- whether an ACK or a PRACK is owed
abbrev pub debt_kind : PendingRequest → PendingKind
debt_kind (Ack invite number) = kind.Ack
debt_kind (Prack rseq number) = kind.Prack

-- what a response to an INVITE asks for: a 2xx an ACK, a reliable provisional one a PRACK
abbrev pub asked_for : ℕ → Client → Message → Option PendingRequest
asked_for status client response =
    let number = ((client.request).cseq).number in
    if is_success status then Some (Ack client.id number)
    else option_map (λ rseq. Prack rseq number) (provisional_number (Some status) response)

-- the ACK or PRACK is owed if the user is told of the response and it doesn't go out at once
abbrev pub owed_if_told : DialogId → List CallOut → PendingRequest → List PendingRequest
owed_if_told name outs pending =
    if list_any is_response outs && not (goes_out (debt_kind pending) name outs) then pending
    ∷ [] else []

-- what a response leaves owed in the dialog of the name, if its INVITE is the first one, which
-- makes dialogs, or was sent in that dialog
abbrev pub reply_owes : ℕ → Client → Message → DialogId → Option HeldDialog → List CallOut
    → List PendingRequest
reply_owes status client response name found outs =
    if is_dialog_id (reply_name client.kind client response) name && has_dialog client.kind found
    then option_map_or (owed_if_told name outs) (asked_for status client response) [] else []

-- the same for the response to the request of this id
abbrev pub response_owes : Id → Message → Clients → DialogId → Option HeldDialog → List CallOut
    → List PendingRequest
response_owes id response clients name found outs =
    option_map_or
    (λ client. option_map_or (λ status. reply_owes status client response name found outs)
    (status_of response.start) [])
    (client_at id clients) []

-- ---- a command of the user

-- the oldest one of the kind is no longer owed
abbrev pub oldest_paid : PendingKind → List PendingRequest → List PendingRequest
oldest_paid kind pending_requests =
    option_map_or (λ pending. filter (λ other. not (is_same_pending pending other))
    pending_requests)
    (find (is_of kind) pending_requests) pending_requests

-- the same after a command for the dialog of the name, if one of the kind goes out
abbrev pub command_pays : PendingKind → DialogBody → DialogId → List CallOut → List PendingRequest
    → List PendingRequest
command_pays kind command name outs pending_requests =
    if is_dialog_id (name_in command.local_tag command.remote_tag) name && goes_out kind name outs
    then oldest_paid kind pending_requests else pending_requests

-- the command Ack
abbrev pub owed_after_ack : DialogBody → DialogId → List CallOut → List PendingRequest
    → List PendingRequest
owed_after_ack command name outs pending_requests =
    command_pays kind.Ack command name outs pending_requests

-- the command Prack
abbrev pub owed_after_prack : DialogBody → DialogId → List CallOut → List PendingRequest
    → List PendingRequest
owed_after_prack command name outs pending_requests =
    command_pays kind.Prack command name outs pending_requests
