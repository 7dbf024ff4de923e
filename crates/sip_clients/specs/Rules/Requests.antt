-- The rules of the client requests of one Call-ID, and of the user's commands that send them (RFC
-- 3261, sections 8.1.1, 9.1, 12.2.1.1, 13.2.1, 13.2.2.4 and 15.1.1; RFC 3262, section 4). Each part
-- ends with the command that it is about.
use Rattle.std.specs.Prelude.{ℕ, ◌+◌, ◌-◌, ◌^◌, Bool, true, false, not, ◌&&◌, ◌||◌, ◌==◌, nat_le, List, [], ◌∷◌, ◌++◌, Option, None, Some, codes, filter, find, fold, is_some, if◌then◌else◌}
use Rattle.std.specs.Map.{lookup, set_value}
use Rattle.std.specs.Option.{option_map_or}
use Rattle.std.specs.Str.{bytes_eq}
use Rattle.indexmap.specs.IndexMap.{insert_entry}
use Rattle.sip_message.specs.Content.{Content, with_content_of}
use Rattle.sip_message.specs.HopByHop.{cancel_of}
use Rattle.sip_message.specs.Key.{client_key}
use Rattle.sip_message.specs.Message.{bare}
use Rattle.sip_message.specs.Party.{party_of}
use Rattle.sip_message.specs.TopVia.{top_branch}
use Rattle.sip_message.specs.Written.{written}
use Rattle.sip_message.specs.declared.cseq.CSeq.{CSeq}
use Rattle.sip_message.specs.declared.id.Id.{Id}
use Rattle.sip_message.specs.declared.message.Message.{Message}
use Rattle.sip_message.specs.declared.message.TheConstants.{MAX_FORWARDS}
use Rattle.sip_message.specs.declared.name_addr.NameAddr.{NameAddr}
use Rattle.sip_message.specs.declared.rack.RAck.{RAck}
use Rattle.sip_message.specs.declared.start_line.StartLine.TheVariants.{Request}
use Rattle.sip_transactions.specs.declared.input.Command.TheVariants.{Start}
use Rattle.sip_dialog.specs.declared.dialog.Dialog.{Dialog}
use Rattle.sip_dialog.specs.declared.dialog.Side.{Side as End}
use Rattle.sip_dialog.specs.declared.dialog.Side.TheVariants.{Caller, Callee}
use Rattle.sip_dialog.specs.Dialog.{is_early, is_ended}
use Rattle.sip_dialog.specs.Request.{agent_via, contact_of, request_in}
use Rattle.sip_dialog.specs.Route.{hop_of, is_strict}
use Rattle.sip_dialog.specs.Step.{with_next_number}
use Rattle.sip_user.specs.declared.command.Cancel.{Cancel}
use Rattle.sip_user.specs.declared.command.DialogBody.{DialogBody}
use Rattle.sip_user.specs.declared.command.DialogRequest.{DialogRequest}
use Rattle.sip_user.specs.declared.command.Invite.{Invite}
use Rattle.sip_user.specs.declared.command.Plain.{Plain as PlainCommand}
use Rattle.sip_user.specs.declared.command.ProvisionalSupport.{ProvisionalSupport}
use Rattle.sip_user.specs.declared.command.ProvisionalSupport.TheVariants as support
use Rattle.sip_held_dialogs.specs.declared.pending_request.PendingRequest.{PendingRequest}
use Rattle.sip_held_dialogs.specs.declared.pending_request.PendingRequest.TheVariants.{Ack, Prack}
use Rattle.sip_held_dialogs.specs.declared.held_dialog.DialogReference.{DialogReference}
use Rattle.sip_held_dialogs.specs.declared.held_dialog.DialogId.{DialogId}
use Rattle.sip_held_dialogs.specs.declared.held_dialog.HeldDialog.{HeldDialog}
use Rattle.sip_user.specs.declared.item.CallOut.{CallOut}
use Rattle.sip_user.specs.declared.item.CallOut.TheVariants.{Command, Direct}
use Rattle.sip_user.specs.declared.refusal.Refusal.{Refusal}
use Rattle.sip_user.specs.declared.refusal.Refusal.TheVariants.{AlreadyFinal, BadMethod, DialogEnded, NoSuchDialog, NoSuchRequest, NothingToAck, NothingToPrack, SequenceUsedUp, StrictRoute}
use Rattle.sip_held_dialogs.specs.Dialogs.{ended_at, is_dialog_id, tag_text}
use Rattle.sip_held_dialogs.specs.Ids.{is_id}
use Rattle.sip_user.specs.Notices.{refused}
use Rattle.sip_user.specs.Refusal.{first_refusal}
use Rattle.sip_held_dialogs.specs.Requests.{dialog_id_of_tags}
use Rattle.sip_clients.specs.declared.answers.SentAck.{SentAck}
use Rattle.sip_clients.specs.declared.client.Cancelling.{Cancelling}
use Rattle.sip_clients.specs.declared.client.Cancelling.TheVariants.{NotAsked, Sent, Waits}
use Rattle.sip_clients.specs.declared.client.Client.{Client}
use Rattle.sip_clients.specs.declared.client.RequestKind.{RequestKind}
use Rattle.sip_clients.specs.declared.client.RequestKind.TheVariants.{InitialInvite, ReInvite, InDialog, OutOfDialog}
use Rattle.sip_clients.specs.declared.event.Event.{Event}
use Rattle.sip_clients.specs.declared.outside.TheConstants.{FIRST_CSEQ}
use Rattle.sip_clients.specs.Client.{Clients, ClientTaken, Side, client_for}
use Rattle.sip_clients.specs.Event.{branch_of}
use Rattle.sip_clients.specs.Name.{opening_tag}

-- ---- client requests

-- an INVITE: an initial one (`InitialInvite`) or a re-INVITE (`ReInvite`)
abbrev pub is_invite_kind : RequestKind → Bool
is_invite_kind InitialInvite = true
is_invite_kind (ReInvite reference) = true
is_invite_kind _ = false

-- the dialog of a re-INVITE or of another request in a dialog (`InDialog`); an initial INVITE and a
-- request outside of dialogs (`OutOfDialog`) have none
abbrev pub dialog_of_kind : RequestKind → Option DialogReference
dialog_of_kind (ReInvite reference) = Some reference
dialog_of_kind (InDialog reference) = Some reference
dialog_of_kind _ = None

-- To (clients, outs): a client request is held, its transaction starts (RFC 3261, section 17.1).
abbrev pub start : Clients × List CallOut → Client → Clients × List CallOut
start done client = (
  insert_entry is_id done.0 client.id client,
  done.1 ++ Command client.id
      (Start (client_key (top_branch client.request) client.request.cseq.method)
      client.request.call_id client.request client.to) ∷ [],
)

-- a command is refused, and nothing changes
abbrev pub refuse : Event → List ℕ → Side → Refusal → ClientTaken
refuse event call_id side refusal = (side, refused event.id call_id refusal)

-- ---- outside of dialogs

-- the request of this method (RFC 3261, section 8.1.1), with the preloaded routes
abbrev pub request_outside : Event → List ℕ → List ℕ → List ℕ → List ℕ → List ℕ → List NameAddr
    → Message
request_outside event call_id method uri from to routes =
    let via = agent_via event.local (branch_of event) in
    let from = party_of from (Some (opening_tag event.seed event.id)) in
    let cseq : CSeq = record { number = FIRST_CSEQ; method = method } in
    record (bare (Request uri) (via ∷ []) from (party_of to None) call_id cseq) {
      max_forwards = Some MAX_FORWARDS;
      routes = routes;
    }

-- `100rel` in Supported or in Require, as the user asks (RFC 3262, section 4)
abbrev pub with_100rel : ProvisionalSupport → Message → Message
with_100rel support.None invite = invite
with_100rel support.Supported invite = record invite { supported = codes "100rel" ∷ [] }
with_100rel support.Required invite = record invite { require = codes "100rel" ∷ [] }

-- An initial INVITE goes out, with this agent's address as Contact (RFC 3261, section 13.2.1).
unfoldable pub invite_command : Event → Invite → Clients → Clients × List CallOut
invite_command event invite clients =
    let request = request_outside event invite.call_id (codes "INVITE") invite.request_uri
    invite.from invite.to invite.routes in
    let supporting = with_100rel invite.support
    (record request { contacts = contact_of event.local ∷ [] }) in
    start (clients, [])
    (client_for event.id InitialInvite (with_content_of supporting invite.content) invite.address)

-- methods with commands of their own, which neither Plain nor Request sends
abbrev pub has_command : List ℕ → Bool
has_command method = bytes_eq method (codes "ACK") || bytes_eq method (codes "CANCEL")
    || bytes_eq method (codes "PRACK")

-- Another request outside of dialogs; an INVITE has its own command, and a BYE needs a dialog.
unfoldable pub plain_command : Event → PlainCommand → Clients → Clients × List CallOut
plain_command event plain clients =
    if has_command plain.method || bytes_eq plain.method (codes "INVITE")
    || bytes_eq plain.method (codes "BYE")
    then (clients, refused event.id plain.call_id BadMethod)
    else (let request = request_outside event plain.call_id plain.method plain.request_uri
    plain.from plain.to plain.routes in
    start (clients, [])
    (client_for event.id OutOfDialog (with_content_of request plain.content) plain.address))

-- ---- in a dialog

-- the agent is the callee
abbrev pub is_callee : End → Bool
is_callee Caller = false
is_callee Callee = true

-- Why a request of this method isn't sent in a dialog, in order (RFC 3261, section 12.2.1.1): in an
-- early one there is no re-INVITE and no 2xx to acknowledge, and the callee ends it by its response
-- (section 15). An ACK takes no number. DialogEnded, and BadMethod of an ACK, don't occur.
abbrev pub refusals_in : Dialog → List ℕ → List (Bool × Refusal)
refusals_in dialog method =
    let bad = bytes_eq method (codes "ACK") || bytes_eq method (codes "INVITE")
    || (is_callee dialog.side && bytes_eq method (codes "BYE")) in
    let last = nat_le (2 ^ 31 - 1) dialog.local_cseq in
    (is_early dialog.state && bad, BadMethod)
    ∷ (is_ended dialog.state, DialogEnded)
    ∷ (is_strict dialog.route_set, StrictRoute)
    ∷ (not (bytes_eq method (codes "ACK")) && last, SequenceUsedUp)
    ∷ []

-- a re-INVITE or another request in a dialog, with the next number of the dialog
abbrev pub request_with_next_number : Event → DialogId → List ℕ → Option RAck → Content → HeldDialog
    → Client
request_with_next_number event name method rack content held =
    let reference : DialogReference = record { name = name; created_by = held.created_by } in
    let message = request_in held.dialog method (held.dialog.local_cseq + 1) content
    (branch_of event) event.local in
    client_for event.id
    (if bytes_eq method (codes "INVITE") then ReInvite reference else InDialog reference)
    (record message { rack = rack }) (hop_of held.dialog held.address)

-- the dialog after the next number was taken
abbrev pub with_number : HeldDialog → HeldDialog
with_number held = record held { dialog = with_next_number held.dialog }

-- A request in a dialog is refused or sent; a BYE removes the dialog (RFC 3261, section 15.1.1).
abbrev pub request_in_dialog : Event → DialogRequest → Side → DialogId → HeldDialog → ClientTaken
request_in_dialog event command side name held =
    option_map_or (refuse event command.call_id side)
    (first_refusal
    ((has_command command.method, BadMethod) ∷ refusals_in held.dialog command.method) None)
    (let sent = start (side.clients, [])
    (request_with_next_number event name command.method None command.content held) in
    let dialogs = set_value (is_dialog_id name) side.dialogs (with_number held) in
    let ended = if bytes_eq command.method (codes "BYE") then ended_at name dialogs
    else (dialogs, []) in
    (record { dialogs = ended.0; clients = sent.0 }, sent.1 ++ ended.1))

-- The command Request is for the held dialog of its tags.
unfoldable pub request_command : Event → DialogRequest → Side → ClientTaken
request_command event command side =
    let name = dialog_id_of_tags (tag_text command.local_tag) (tag_text command.remote_tag) in
    option_map_or (request_in_dialog event command side name)
    (lookup (is_dialog_id name) side.dialogs)
    (refuse event command.call_id side NoSuchDialog)

-- ---- the ACK of a 2xx, and the PRACK of a reliable provisional response

-- Pending in a dialog is an ACK that a 2xx asked for (its INVITE's id and CSeq number), or a PRACK
-- that a reliable provisional response asked for (its RSeq and its INVITE's CSeq number). Read from
-- the end: pending_command finds the dialog, oldest_pending the request, pending_by_user sends it;
-- a response comes in at pending_outcome (asks_for).
pub record PendingOutcome : Type 0 where
  -- the dialog afterwards
  pub dialog : HeldDialog
  -- the ACK that went out, to be kept
  pub ack : Option SentAck
  -- the PRACK that goes out, at most one
  pub prack : List Client
  -- what is given at once: that ACK, which has no transaction, or why it is refused
  pub outs : List CallOut

-- It goes out with this content, in this dialog, where it is no longer pending. An ACK takes no
-- number (it has its INVITE's), a PRACK the next (RFC 3261, section 13.2.2.4; RFC 3262, section 4).
abbrev pub pending_sent : Event → DialogId → PendingRequest → Content → HeldDialog → PendingOutcome
pending_sent event name (Ack invite cseq) content held =
    let message = request_in held.dialog (codes "ACK") cseq content (branch_of event)
    event.local in
    let to = hop_of held.dialog held.address in
    record {
      dialog = held;
      ack = Some record { to = to; bytes = written message };
      prack = [];
      outs = Direct to (written message) ∷ [];
    }
pending_sent event name (Prack rseq cseq) content held =
    let rack = Some record { rseq = rseq; cseq = cseq; method = codes "INVITE" } in
    record {
      dialog = with_number held;
      ack = None;
      prack = request_with_next_number event name (codes "PRACK") rack content held ∷ [];
      outs = [];
    }

-- nothing goes out: the dialog as given, and what is told
abbrev pub pending_unsent : HeldDialog → List CallOut → PendingOutcome
pending_unsent held outs = record { dialog = held; ack = None; prack = []; outs = outs }

-- the method of a pending request
abbrev pub method_of : PendingRequest → List ℕ
method_of (Ack invite cseq) = codes "ACK"
method_of (Prack rseq cseq) = codes "PRACK"

-- With this content it goes out in `without_it`, the dialog where it is no longer pending; or it is
-- refused, and stays pending in `with_it`, the dialog as held.
abbrev pub pending_with : Event → List ℕ → DialogId → PendingRequest → HeldDialog → HeldDialog
    → Content → PendingOutcome
pending_with event call_id name pending without_it with_it content =
    option_map_or (λ refusal. pending_unsent with_it (refused event.id call_id refusal))
    (first_refusal (refusals_in without_it.dialog (method_of pending)) None)
    (pending_sent event name pending content without_it)

-- The same if there is a content. Without one it waits in `with_it` for the user's.
abbrev pub pending_outcome : Event → List ℕ → DialogId → PendingRequest → Option Content
    → HeldDialog
    → HeldDialog → PendingOutcome
pending_outcome event call_id name pending content without_it with_it =
    option_map_or (pending_with event call_id name pending without_it with_it) content
    (pending_unsent with_it [])

-- the same pending request
abbrev pub is_same_pending : PendingRequest → PendingRequest → Bool
is_same_pending (Ack invite cseq) (Ack other_invite other_cseq) =
    is_id invite other_invite && (cseq == other_cseq)
is_same_pending (Prack rseq cseq) (Prack other_rseq other_cseq) =
    (rseq == other_rseq) && (cseq == other_cseq)
is_same_pending _ _ = false

-- the ACK is kept with its INVITE, if that is held, for a retransmitted 2xx
abbrev pub ack_kept : PendingRequest → DialogId → Option SentAck → Clients → Clients
ack_kept (Ack invite cseq) name (Some ack) clients =
    option_map_or (λ client. set_value (is_id invite) clients
    (record client { answers = insert_entry is_dialog_id client.answers name (Some ack) }))
    (lookup (is_id invite) clients) clients
ack_kept _ name ack clients = clients

-- by the user's command it goes out and is no longer pending, or is refused and stays pending
abbrev pub pending_by_user : Event → DialogBody → Side → DialogId → HeldDialog → PendingRequest
    → ClientTaken
pending_by_user event command side name held pending =
    let others = filter (λ other. not (is_same_pending pending other)) held.pending_requests in
    let without_it = record held { pending_requests = others } in
    let content = Some command.content in
    let done = pending_outcome event command.call_id name pending content without_it held in
    let after = fold start (ack_kept pending name done.ack side.clients, done.outs) done.prack in (
      record {
        dialogs = set_value (is_dialog_id name) side.dialogs done.dialog;
        clients = after.0;
      },
      after.1,
    )

-- the oldest pending one of this method in this held dialog
abbrev pub oldest_pending : List ℕ → Refusal → Event → DialogBody → Side → DialogId → HeldDialog
    → ClientTaken
oldest_pending method nothing event command side name held =
    option_map_or (pending_by_user event command side name held)
    (find (λ pending. bytes_eq (method_of pending) method) held.pending_requests)
    (refuse event command.call_id side nothing)

-- The user's ACK or PRACK is for the oldest that is pending in the held dialog of its tags.
abbrev pub pending_command : List ℕ → Refusal → Event → DialogBody → Side → ClientTaken
pending_command method nothing event command side =
    let name = dialog_id_of_tags (tag_text command.local_tag) (tag_text command.remote_tag) in
    option_map_or (oldest_pending method nothing event command side name)
    (lookup (is_dialog_id name) side.dialogs) (refuse event command.call_id side NoSuchDialog)

-- the command Ack
unfoldable pub ack_command : Event → DialogBody → Side → ClientTaken
ack_command = pending_command (codes "ACK") NothingToAck

-- the command Prack
unfoldable pub prack_command : Event → DialogBody → Side → ClientTaken
prack_command = pending_command (codes "PRACK") NothingToPrack

-- ---- CANCEL

-- the CANCEL of an INVITE, with its branch and to its address (RFC 3261, section 9.1); it is held
-- as a request outside of dialogs
abbrev pub cancel_request : Id → Client → Client
cancel_request id invite = client_for id OutOfDialog (cancel_of invite.request) invite.to

-- a CANCEL was already asked for
abbrev pub is_asked : Cancelling → Bool
is_asked NotAsked = false
is_asked _ = true

-- An INVITE without a final response is cancelled once: a second command does nothing. The CANCEL
-- goes out at once if a provisional response came, otherwise when the first one comes (RFC 3261,
-- section 9.1). After a response of 300 to 699 the INVITE is no longer held: NoSuchRequest.
abbrev pub cancel_of_request : Event → Cancel → Side → Client → ClientTaken
cancel_of_request event command side invite =
    if not (is_invite_kind invite.kind) then refuse event command.call_id side NoSuchRequest
    else if is_some invite.removal then refuse event command.call_id side AlreadyFinal
    else if is_asked invite.cancel then (side, [])
    else (
    let with_cancel : Cancelling → Clients = λ cancel. set_value (is_id command.id) side.clients
    (record invite { cancel = cancel }) in
    let done = if invite.provisional
    then start (with_cancel Sent, []) (cancel_request event.id invite)
    else (with_cancel (Waits event.id), []) in
    (record side { clients = done.0 }, done.1))

-- The command Cancel is for the held request of its id.
unfoldable pub cancel_command : Event → Cancel → Side → ClientTaken
cancel_command event command side =
    option_map_or (cancel_of_request event command side) (lookup (is_id command.id) side.clients)
    (refuse event command.call_id side NoSuchRequest)
