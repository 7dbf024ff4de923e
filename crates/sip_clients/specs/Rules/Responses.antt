-- The rules of a response to a client request (RFC 3261, sections 9.1, 12.1.2, 12.2.1.2, 13.2.2 and
-- 13.2.2.4; RFC 3262, section 4). Read from the end: response_received finds the request,
-- response_to treats its CANCEL, outcome_of chooses the case; the cases come before them.
use Rattle.std.specs.Prelude.{ℕ, ◌+◌, Bool, true, not, ◌&&◌, ◌||◌, ◌==◌, List, [], ◌∷◌, ◌++◌, length, Option, None, Some, fold, is_none, is_some, option_and_then, unwrap_or, if◌then◌else◌}
use Rattle.std.specs.Map.{lookup, remove_entry, set_value}
use Rattle.std.specs.Option.{option_map_or}
use Rattle.indexmap.specs.IndexMap.{insert_entry}
use Rattle.sip_message.specs.Content.{content_of_body}
use Rattle.sip_message.specs.Party.{tag_of}
use Rattle.sip_message.specs.declared.id.Id.{Id}
use Rattle.sip_message.specs.declared.message.Message.{Message}
use Rattle.sip_message.specs.declared.start_line.StartLine.{StartLine}
use Rattle.sip_message.specs.declared.start_line.StartLine.TheVariants as start_line
use Rattle.sip_timers.specs.declared.estimate.TheConstants.{LIFETIME}
use Rattle.sip_dialog.specs.Dialog.{is_ended}
use Rattle.sip_dialog.specs.Opening.{contact_uri, opened_by_response}
use Rattle.sip_dialog.specs.Step.{confirmed_by}
use Rattle.sip_held_dialogs.specs.declared.pending_request.PendingRequest.{PendingRequest}
use Rattle.sip_held_dialogs.specs.declared.pending_request.PendingRequest.TheVariants.{Ack, Prack}
use Rattle.sip_held_dialogs.specs.declared.held_dialog.HeldDialog.{HeldDialog}
use Rattle.sip_user.specs.declared.item.CallOut.{CallOut}
use Rattle.sip_user.specs.declared.item.CallOut.TheVariants.{Direct, Notice}
use Rattle.sip_user.specs.declared.notice.Notice.TheVariants.{Response}
use Rattle.sip_held_dialogs.specs.Dialogs.{is_dialog_id, lives, Dialogs}
use Rattle.sip_held_dialogs.specs.Ids.{is_id}
use Rattle.sip_held_dialogs.specs.Requests.{is_final, has_to_tag, is_success, dialog_id_of_tags, requires_100rel}
use Rattle.sip_clients.specs.declared.answers.SentAck.{SentAck}
use Rattle.sip_clients.specs.declared.client.Cancelling.{Cancelling}
use Rattle.sip_clients.specs.declared.client.Cancelling.TheVariants.{NotAsked, Sent, Waits}
use Rattle.sip_clients.specs.declared.client.Client.{Client}
use Rattle.sip_clients.specs.declared.event.Event.{Event}
use Rattle.sip_clients.specs.declared.reply.ReceivedResponse.{ReceivedResponse}
use Rattle.sip_clients.specs.Client.{ClientTaken, Side}
use Rattle.sip_clients.specs.Rules.Ends.{request_over}
use Rattle.sip_clients.specs.Rules.Requests.{cancel_request, is_invite_kind, dialog_of_kind, pending_outcome, start}

-- ---- what a response does

-- what a response leads to
pub record Outcome : Type 0 where
  -- None if it is over
  pub request : Option Client
  pub dialogs : Dialogs
  -- what is told, and the ACK that goes out, in order
  pub outs : List CallOut
  -- the PRACK that goes out after those
  pub prack : List Client

-- the user is told of a response
abbrev pub notice_of : ReceivedResponse → CallOut
notice_of reply =
    Notice (Response reply.call_id reply.id reply.status (tag_of reply.response.from)
    (tag_of reply.response.to) reply.response.body)

-- the request stays held, and nothing is asked for
abbrev pub kept : Client → Dialogs → List CallOut → Outcome
kept after dialogs outs =
    record { request = Some after; dialogs = dialogs; outs = outs; prack = [] }

-- The user is told of a response that asks for an ACK or a PRACK. That goes out at once, empty,
-- unless it must carry an SDP answer (the response has a body and the INVITE had none; own: any
-- body counts as SDP) or is refused (the user is told, with the place of this response). If it
-- waits or is refused, it is the last in `pending_requests`: `with_it` is `held` with it. `after`
-- gives the request, with the ACK that went out (RFC 3261, section 13.2.1; RFC 3262, section 5).
abbrev pub asks_for : PendingRequest → ReceivedResponse → Client → (Option SentAck → Client)
    → HeldDialog → Dialogs → Outcome
asks_for pending reply client after held dialogs =
    let content = if not (length client.request.body == 0) || (length reply.response.body == 0)
    then Some (content_of_body []) else None in
    let with_it = record held { pending_requests = held.pending_requests ++ pending ∷ [] } in
    let done = pending_outcome reply.event reply.call_id reply.name pending content held with_it in
    record {
      request = Some (after done.ack);
      dialogs = insert_entry is_dialog_id dialogs reply.name done.dialog;
      outs = notice_of reply ∷ done.outs;
      prack = done.prack;
    }

-- an initial INVITE, not a re-INVITE (asked only of INVITEs)
abbrev pub is_initial : Client → Bool
is_initial client = is_none (dialog_of_kind client.kind)

-- the dialog that a response makes (RFC 3261, section 12.1.2); to `address` go its requests if the
-- URI of their next hop has no IPv4 address
abbrev pub dialog_made_by : ReceivedResponse → Client → HeldDialog
dialog_made_by reply client = record {
  dialog = opened_by_response client.request reply.response;
  address = client.to;
  invite = client.id;
  created_by = reply.event.id;
  last_rseq = None;
  pending_requests = [];
}

-- ---- final responses

-- The last one (final, but no 2xx to an INVITE): the request is over, and its early dialogs end; a
-- 481 or 408 also ends the dialog that it was sent in (RFC 3261, section 12.2.1.2).
abbrev pub last_response : ReceivedResponse → Client → Dialogs → Outcome
last_response reply client dialogs =
    let ends_dialog = (reply.status == 481) || (reply.status == 408) in
    let ended = request_over client ends_dialog dialogs in
    record { request = None; dialogs = ended.0; outs = notice_of reply ∷ ended.1; prack = [] }

-- a retransmitted 2xx gets the same ACK, to the same address, or nothing if none was sent yet (Some
-- None); the user isn't told again (RFC 3261, section 13.2.2.4)
abbrev pub success_again : Option (Option SentAck) → Client → Dialogs → Outcome
success_again answer client dialogs =
    kept client dialogs (option_map_or (λ ack. Direct ack.to ack.bytes ∷ [])
    (option_and_then (λ ack. ack) answer) [])

-- the INVITE after a 2xx, with the ACK if one was sent; it is held for 64*T1 from the first 2xx on
-- (RFC 3261, section 13.2.2.4)
abbrev pub accepted : ReceivedResponse → Client → Option SentAck → Client
accepted reply client ack = record client {
  answers = insert_entry is_dialog_id client.answers reply.name ack;
  removal = Some (unwrap_or client.removal (reply.event.moment + LIFETIME));
}

-- A 2xx to an initial INVITE confirms its dialog, and one to a re-INVITE refreshes the target (RFC
-- 3261, sections 12.2.1.2 and 13.2.2.4). A dialog that ends isn't held.
abbrev pub success_in : Bool → Message → HeldDialog → HeldDialog
success_in initial response held =
    let target = unwrap_or (contact_uri response) held.dialog.target in
    if is_ended held.dialog.state then held
    else if initial then record held { dialog = confirmed_by held.dialog response }
    else record held { dialog = record held.dialog { target = target } }

-- The first 2xx of a dialog asks for its ACK, and makes the dialog if that isn't held. A held
-- dialog of this ID is of this INVITE, since its local tag is the From tag made for it. For a
-- re-INVITE has_dialog has asked whether the dialog is held.
abbrev pub first_success : ReceivedResponse → Client → Dialogs → Outcome
first_success reply client dialogs =
    let found = lookup (is_dialog_id reply.name) dialogs in
    asks_for (Ack client.id client.request.cseq.number) reply client (accepted reply client)
    (option_map_or (success_in (is_initial client) reply.response) found
    (dialog_made_by reply client)) dialogs

-- ---- provisional responses of a dialog

-- A reliable one is taken if it is the first of the dialog or has the RSeq after the last (a
-- re-INVITE keeps its own last RSeq). It asks for its PRACK. Others are dropped, and the user isn't
-- told (RFC 3262, section 4).
abbrev pub reliable_response : ReceivedResponse → Client → Dialogs → HeldDialog → ℕ → Outcome
reliable_response reply client dialogs held rseq =
    let initial = is_initial client in
    let last = if initial then held.last_rseq else client.last_rseq in
    if not (option_map_or (λ last. rseq == last + 1) last true) then kept client dialogs []
    else asks_for (Prack rseq client.request.cseq.number) reply client
    (λ ack. if initial then client else record client { last_rseq = Some rseq })
    (if initial then record held { last_rseq = Some rseq } else held) dialogs

-- one of a dialog, which it makes (early) if it isn't held; unreliable if without 100rel or RSeq
abbrev pub dialog_response : ReceivedResponse → Client → Dialogs → Outcome
dialog_response reply client dialogs =
    let response = reply.response in
    let held = unwrap_or (lookup (is_dialog_id reply.name) dialogs) (dialog_made_by reply client) in
    option_map_or (reliable_response reply client dialogs held)
    (if requires_100rel response then response.rseq else None)
    (kept client (insert_entry is_dialog_id dialogs reply.name held) (notice_of reply ∷ []))

-- ---- all of them

-- the dialog of an INVITE is still held, or may be made
abbrev pub has_dialog : Client → Dialogs → Bool
has_dialog client dialogs =
    is_invite_kind client.kind && option_map_or (lives dialogs) (dialog_of_kind client.kind) true

-- The first case that fits: the last response; a retransmitted 2xx; the first 2xx of a dialog; the
-- first 2xx to a re-INVITE whose dialog has ended (own: it gets no ACK); a provisional response of
-- no dialog (RFC 3261, section 12.1); one of a dialog.
abbrev pub outcome_of : ReceivedResponse → Client → Dialogs → Outcome
outcome_of reply client dialogs =
    let final = is_final reply.status in
    let answer = lookup (is_dialog_id reply.name) client.answers in
    if final && not (is_invite_kind client.kind && is_success reply.status)
    then last_response reply client dialogs
    else if final && is_some answer then success_again answer client dialogs
    else if final && has_dialog client dialogs then first_success reply client dialogs
    else if final then kept (accepted reply client None) dialogs (notice_of reply ∷ [])
    else if not (has_dialog client dialogs && not (reply.status == 100)
    && has_to_tag reply.response)
    then kept client dialogs (notice_of reply ∷ [])
    else dialog_response reply client dialogs

-- the status of a response
abbrev pub status_of : StartLine → Option ℕ
status_of (start_line.Request uri) = None
status_of (start_line.Response status reason) = Some status

-- the event that asked for a CANCEL that waits
abbrev pub waiting_cancel : Cancelling → Option Id
waiting_cancel (Waits id) = Some id
waiting_cancel _ = None

-- A response of this status to this request, by `outcome_of`. Then the PRACK goes out, and last a
-- CANCEL that waited for a provisional response; a final one discards that (RFC 3261, section 9.1).
-- `name` is the dialog of the request, or else that of its From tag and the response's To tag.
abbrev pub response_to : Event → Id → List ℕ → Message → Side → ℕ → Client → ClientTaken
response_to event id call_id response side status client =
    let final = is_final status in
    let waiting = waiting_cancel client.cancel in
    let cancel = if final then []
    else option_map_or (λ asked_by. cancel_request asked_by client ∷ []) waiting [] in
    let after = record client {
      provisional = client.provisional || not final;
      cancel = option_map_or (λ asked_by. if final then NotAsked else Sent) waiting client.cancel;
    } in
    let reply : ReceivedResponse = record {
      event = event;
      id = id;
      call_id = call_id;
      name = option_map_or (λ reference. reference.name) (dialog_of_kind client.kind)
          (dialog_id_of_tags (tag_of client.request.from) (tag_of response.to));
      status = status;
      response = response;
    } in
    let done = outcome_of reply after side.dialogs in
    let clients = option_map_or (set_value (is_id id) side.clients) done.request
    (remove_entry (is_id id) side.clients) in
    let sent = fold start (clients, done.outs) (done.prack ++ cancel) in
    (record { dialogs = done.dialogs; clients = sent.0 }, sent.1)

-- A response to the held request, also a CANCEL, that the event `id` sent; to none it does nothing.
unfoldable pub response_received : Event → Id → List ℕ → Message → Side → ClientTaken
response_received event id call_id response side =
    option_map_or (λ status. option_map_or (response_to event id call_id response side status)
    (lookup (is_id id) side.clients) (side, [])) (status_of response.start) (side, [])
