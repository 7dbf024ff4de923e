-- The user's commands that send a request in a dialog (RFC 3261, sections 12.2.1.1, 13.2.2.4 and
-- 15.1.1; RFC 3262, section 4).
use Rattle.std.specs.Prelude.{ℕ, Bool, true, false, ◌&&◌, ◌||◌, nat_le, List, [], ◌∷◌, Option, None, Some, Result, Ok, Err, codes, find, if◌then◌else◌}
use Rattle.std.specs.Option.{option_map_or}
use Rattle.std.specs.Str.{bytes_eq}
use Rattle.sip_message.specs.Content.{Content}
use Rattle.sip_dialog.specs.declared.dialog.Side.{Side}
use Rattle.sip_dialog.specs.declared.dialog.Side.TheVariants.{Caller, Callee}
use Rattle.sip_dialog.specs.declared.dialog.Dialog.{Dialog}
use Rattle.sip_dialog.specs.Dialog.{is_early, is_ended}
use Rattle.sip_dialog.specs.Route.{is_strict}
use Rattle.sip_dialog.specs.Life.{Requests}
use Rattle.sip_user.specs.declared.command.DialogBody.{DialogBody}
use Rattle.sip_user.specs.declared.command.DialogRequest.{DialogRequest}
use Rattle.sip_held_dialogs.specs.declared.pending_request.PendingRequest.{PendingRequest}
use Rattle.sip_held_dialogs.specs.declared.held_dialog.DialogId.{DialogId}
use Rattle.sip_held_dialogs.specs.declared.held_dialog.HeldDialog.{HeldDialog}
use Rattle.sip_user.specs.declared.item.CallOut.{CallOut}
use Rattle.sip_user.specs.declared.refusal.Refusal.{Refusal}
use Rattle.sip_user.specs.declared.refusal.Refusal.TheVariants.{NoSuchDialog, BadMethod, DialogEnded, StrictRoute, SequenceUsedUp, NothingToAck, NothingToPrack}
use Rattle.sip_held_dialogs.specs.Dialogs.{dialog_at, ended_at, lived, tag_text, Dialogs}
use Rattle.sip_user.specs.Refusal.{first_refusal}
use Rattle.sip_held_dialogs.specs.Requests.{dialog_id_of_tags}
use Rattle.sip_clients.specs.declared.answers.SentAck.{SentAck}
use Rattle.sip_clients.specs.declared.pending.PendingKind.{PendingKind}
use Rattle.sip_clients.specs.declared.pending.PendingKind.TheVariants as kind
use Rattle.sip_clients.specs.declared.event.Event.{Event}
use Rattle.sip_clients.specs.declared.outputs.ClientChange.{ClientChange}
use Rattle.sip_clients.specs.declared.send_outcome.OutgoingRequest.{OutgoingRequest}
use Rattle.sip_clients.specs.declared.send_outcome.SendOutcome.{SendOutcome}
use Rattle.sip_clients.specs.declared.send_outcome.SendOutcome.TheVariants.{Sent, Waits, Refused}
use Rattle.sip_clients.specs.Pending.{is_of}
use Rattle.sip_clients.specs.Dialogs.{paid_at, served_at}
use Rattle.sip_clients.specs.Outputs.{ack_said, request_said}
use Rattle.sip_clients.specs.SendOutcome.{Outcome, sending_in}

-- ---- methods

-- ACK, CANCEL and PRACK have commands of their own
abbrev pub is_own_kind : List ℕ → Bool
is_own_kind method = bytes_eq method (codes "ACK") || bytes_eq method (codes "CANCEL")
    || bytes_eq method (codes "PRACK")

-- methods that Plain doesn't send
abbrev pub is_bad_outside : List ℕ → Bool
is_bad_outside method =
    is_own_kind method || bytes_eq method (codes "INVITE") || bytes_eq method (codes "BYE")

-- the callee's side
abbrev pub is_callee : Side → Bool
is_callee Caller = false
is_callee Callee = true

-- methods that aren't sent in an early dialog; the callee ends one by its answer (RFC 3261, section
-- 15)
abbrev pub is_bad_early : Side → List ℕ → Bool
is_bad_early side method =
    bytes_eq method (codes "INVITE") || (is_callee side && bytes_eq method (codes "BYE"))

-- ---- a request

-- the conditions under which a request of this method is refused, in the order of their tests
abbrev pub request_refusals : Dialog → List ℕ → List (Bool × Refusal)
request_refusals dialog method =
    (is_own_kind method, BadMethod)
    ∷ (is_early dialog.state && is_bad_early dialog.side method, BadMethod)
    ∷ (is_ended dialog.state, DialogEnded)
    ∷ (is_strict dialog.route_set, StrictRoute)
    ∷ (nat_le 2147483647 dialog.local_cseq, SequenceUsedUp)
    ∷ []

-- a request is refused, or is sent and takes the next number
abbrev pub sent_unless : Option Refusal → OutgoingRequest → HeldDialog → Outcome
sent_unless (Some refusal) sending held = (held, Refused refusal)
sent_unless None sending held =
    (lived (Requests ((sending.message).cseq).method ∷ []) held, Sent sending)

-- a request in this dialog
unfoldable pub request_in_held : Event → List ℕ → Content → HeldDialog → Outcome
request_in_held event method content held =
    sent_unless (first_refusal (request_refusals held.dialog method) None)
    (sending_in event method None content held) held

-- a request in the dialog of this name
unfoldable pub requested_at : DialogId → Event → DialogRequest → Dialogs → Dialogs × SendOutcome
requested_at name event command dialogs =
    served_at name (request_in_held event command.method command.content) (Refused NoSuchDialog)
    dialogs

-- a BYE that is sent ends its dialog at once
abbrev pub bye_ended : DialogId → List ℕ → SendOutcome → Dialogs → Dialogs × List CallOut
bye_ended name method (Sent sending) dialogs =
    if bytes_eq method (codes "BYE") then ended_at name dialogs else (dialogs, [])
bye_ended name method Waits dialogs = (dialogs, [])
bye_ended name method (Refused refusal) dialogs = (dialogs, [])

-- after a request: the dialogs, what is told, the request that is sent, and the end that is told
-- last
abbrev pub request_asked : Event → DialogId → DialogRequest → Dialogs
    → Dialogs × List CallOut × ClientChange × List CallOut
request_asked event name command dialogs =
    let done = requested_at name event command dialogs in
    let bye = bye_ended name command.method done.1 done.0 in
    let said = request_said event command.call_id name done.1 in
    (bye.0, said.0, said.1, bye.1)

-- ---- an ACK or a PRACK

-- the refusal if nothing of a kind is owed
abbrev pub nothing_pending : PendingKind → Refusal
nothing_pending kind.Ack = NothingToAck
nothing_pending kind.Prack = NothingToPrack

-- what is owed, or that refusal
abbrev pub debt_or_refusal : PendingKind → Option PendingRequest → Result PendingRequest Refusal
debt_or_refusal kind None = Err (nothing_pending kind)
debt_or_refusal kind (Some pending) = Ok pending

-- the oldest ACK or PRACK that is owed in a dialog
abbrev pub oldest_pending : PendingKind → HeldDialog → Result PendingRequest Refusal
oldest_pending kind held = debt_or_refusal kind (find (is_of kind) held.pending_requests)

-- the oldest ACK or PRACK that is owed in the dialog of this name, or why there is none
abbrev pub pending_for : PendingKind → DialogId → Dialogs → Result PendingRequest Refusal
pending_for kind name dialogs =
    option_map_or (oldest_pending kind) (dialog_at name dialogs) (Err NoSuchDialog)

-- the dialogs after the ACK, what is told or sent, and the ACK if it is sent
abbrev pub ack_asked : Event → DialogId → PendingRequest → DialogBody → Dialogs
    → Dialogs × List CallOut × Option SentAck
ack_asked event name pending command dialogs =
    let done = paid_at name event pending command.content dialogs in
    let said = ack_said event command.call_id done.1 in
    (done.0, said.0, said.1)

-- the dialogs after the PRACK, what is told, and the request that is sent
abbrev pub prack_asked : Event → DialogId → PendingRequest → DialogBody → Dialogs
    → Dialogs × List CallOut × ClientChange
prack_asked event name pending command dialogs =
    let done = paid_at name event pending command.content dialogs in
    let said = request_said event command.call_id name done.1 in
    (done.0, said.0, said.1)

-- the name of the dialog that a command is for
abbrev pub name_in : Option (List ℕ) → Option (List ℕ) → DialogId
name_in local remote = dialog_id_of_tags (tag_text local) (tag_text remote)
