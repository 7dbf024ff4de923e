-- The user's answer to a held request: when it is refused, what is sent, and what is held then (RFC
-- 3261, sections 8.2.6, 12.1.1 and 13.3.1; RFC 3262, section 3).
use Rattle.std.specs.Prelude.{ℕ, Bool, true, false, not, ◌&&◌, ◌||◌, nat_le, List, [], ◌∷◌, Option, None, Some, Result, Ok, Err, codes, find, is_some, is_none, if◌then◌else◌}
use Rattle.std.specs.List.{list_any}
use Rattle.std.specs.Option.{option_map, option_map_or}
use Rattle.std.specs.Result.{result_ok}
use Rattle.indexmap.specs.IndexMap.{insert_entry}
use Rattle.sip_message.specs.declared.addr.Addr.{Addr}
use Rattle.sip_message.specs.declared.id.Id.{Id}
use Rattle.sip_message.specs.declared.message.Message.{Message}
use Rattle.sip_message.specs.Content.{with_content_of}
use Rattle.sip_message.specs.Response.{response_of}
use Rattle.sip_dialog.specs.Opening.{opened_by_request}
use Rattle.sip_dialog.specs.Request.{contact_of}
use Rattle.sip_reliable.specs.declared.send_fault.SendFault.{SendFault}
use Rattle.sip_reliable.specs.declared.send_fault.SendFault.TheVariants as send
use Rattle.sip_reliable.specs.Ledger.{send_answer, send_fault}
use Rattle.sip_transactions.specs.declared.input.Command.TheVariants.{Answer}
use Rattle.sip_user.specs.declared.command.Reliability.{Reliability}
use Rattle.sip_user.specs.declared.command.Reliability.TheVariants.{Plain, Reliable}
use Rattle.sip_user.specs.declared.command.Respond.{Respond}
use Rattle.sip_held_dialogs.specs.declared.held_dialog.HeldDialog.{HeldDialog}
use Rattle.sip_served.specs.declared.held_request.HeldRequest.{HeldRequest}
use Rattle.sip_user.specs.declared.item.CallOut.{CallOut}
use Rattle.sip_user.specs.declared.item.CallOut.TheVariants.{Command}
use Rattle.sip_user.specs.declared.refusal.Refusal.{Refusal}
use Rattle.sip_user.specs.declared.refusal.Refusal.TheVariants.{NoSuchRequest, AlreadyFinal, BadStatus, ReliablePending, NotSupported, SequenceUsedUp, DialogEnded}
use Rattle.sip_user.specs.Notices.{refused}
use Rattle.sip_user.specs.Refusal.{first_refusal}
use Rattle.sip_held_dialogs.specs.Dialogs.{confirmed, dialog_changed, early_ended, is_dialog_id, lives, Dialogs}
use Rattle.sip_held_dialogs.specs.Requests.{dialog_id_of, is_final, has_to_tag, is_invite, is_provisional, is_success, requires_100rel, supports_100rel}
use Rattle.sip_served.specs.RequestLife.{RequestHappening, Finishes, MakesDialog, SendsReliably, went_on}
use Rattle.sip_served.specs.State.{State, ServedTaken, changed_at, has_id}

-- ---- when it is refused

-- a status that the user may give
abbrev pub is_user_status : ℕ → Bool
is_user_status status = nat_le 101 status && nat_le status 699

-- the user asks for a reliable provisional response
abbrev pub is_reliable : Reliability → Bool
is_reliable Plain = false
is_reliable Reliable = true

-- a provisional response to an INVITE whose sender has 100rel
abbrev pub may_be_reliable : HeldRequest → ℕ → Bool
may_be_reliable held status =
    is_invite held.request && is_provisional status && supports_100rel held.request

-- It is sent reliably if the user asks for it, and always if the INVITE requires it.
abbrev pub is_sent_reliably : HeldRequest → ℕ → Reliability → Bool
is_sent_reliably held status reliability =
    may_be_reliable held status && (is_reliable reliability || requires_100rel held.request)

-- a response that makes or confirms a dialog, or is in one
abbrev pub makes_or_confirms_dialog : HeldRequest → ℕ → Bool
makes_or_confirms_dialog held status =
    is_invite held.request && (is_provisional status || is_success status)

-- the dialog of the request has ended
abbrev pub has_ended : Dialogs → HeldRequest → Bool
has_ended dialogs held = option_map_or (λ life. not (lives dialogs life)) held.dialog false

-- why a reliable provisional response can't be sent
abbrev pub refusal_of_fault : SendFault → Refusal
refusal_of_fault send.Closed = AlreadyFinal
refusal_of_fault send.NotSupported = NotSupported
refusal_of_fault send.Unacknowledged = ReliablePending
refusal_of_fault send.NumbersUsedUp = SequenceUsedUp

-- why a reliable response must wait, or a 2xx while one with a body waits for its PRACK
abbrev pub reliable_refusal : HeldRequest → Respond → Option Refusal
reliable_refusal held respond =
    if is_sent_reliably held respond.status respond.reliability
    then option_map refusal_of_fault (send_fault held.ledger)
    else if is_success respond.status && list_any (λ p. p.has_body) held.ledger.waiting
    then Some ReliablePending
    else None

-- the conditions under which an answer is refused, in the order of their tests
abbrev pub refusals : Dialogs → Respond → HeldRequest → List (Bool × Refusal)
refusals dialogs respond held =
    (not (is_user_status respond.status), BadStatus)
    ∷ (is_some held.removal, AlreadyFinal)
    ∷ (is_reliable respond.reliability && not (may_be_reliable held respond.status), NotSupported)
    ∷ (makes_or_confirms_dialog held respond.status && has_ended dialogs held, DialogEnded)
    ∷ []

-- the first reason for which an answer is refused
abbrev pub refusal_for : Dialogs → Respond → HeldRequest → Option Refusal
refusal_for dialogs respond held =
    first_refusal (refusals dialogs respond held) (reliable_refusal held respond)

-- ---- the response

-- a response with `Require: 100rel` and an RSeq (RFC 3262, section 3)
abbrev pub with_rseq : Option ℕ → Message → Message
with_rseq rseq response = record response { require = codes "100rel" ∷ []; rseq = rseq }

-- a response with the Record-Route of the INVITE and the agent's Contact (RFC 3261, section 12.1.1)
abbrev pub with_routes : Addr → Message → Message → Message
with_routes local request response =
    record response { contacts = contact_of local ∷ []; record_routes = request.record_routes }

-- a change of a message, if the condition is true
abbrev pub if_so : Bool → (Message → Message) → Message → Message
if_so so change message = if so then change message else message

-- the response that goes out
abbrev pub answer_to : Addr → HeldRequest → Respond → Message
answer_to local held respond =
    with_content_of
    (if_so (is_sent_reliably held respond.status respond.reliability)
    (with_rseq (result_ok (send_answer held.ledger)))
    (if_so (makes_or_confirms_dialog held respond.status) (with_routes local held.request)
    (response_of held.request respond.status respond.reason held.tag)))
    respond.content

-- ---- the request after the response

-- a reliable provisional response goes out, with the number from the ledger
abbrev pub sends_as : Result ℕ SendFault → Message → ℕ → List RequestHappening
sends_as (Ok number) response now = SendsReliably number response now ∷ []
sends_as (Err fault) response now = []

-- what happens to the request: a reliable provisional response goes out, or the final one
abbrev pub answers : HeldRequest → ℕ → Reliability → Message → ℕ → List RequestHappening
answers held status reliability response now =
    if is_sent_reliably held status reliability
    then sends_as (send_answer held.ledger) response now
    else if is_final status then Finishes response status now ∷ [] else []

-- the held request after that
abbrev pub answered : ℕ → Reliability → Message → ℕ → HeldRequest → HeldRequest
answered status reliability response now held =
    went_on (answers held status reliability response now) held

-- the held request after a reliable provisional response
abbrev pub sent_as : Result ℕ SendFault → Message → ℕ → HeldRequest → HeldRequest
sent_as number response now held = went_on (sends_as number response now) held

-- the same with the next number
abbrev pub sent_reliably : Message → ℕ → HeldRequest → HeldRequest
sent_reliably response now held = sent_as (send_answer held.ledger) response now held

-- the held request after the final response
abbrev pub finished : Message → ℕ → ℕ → HeldRequest → HeldRequest
finished response status now held = went_on (Finishes response status now ∷ []) held

-- ---- the dialogs after the response

-- a response makes a dialog if its request is outside of dialogs and has made none (RFC 3261,
-- section 12.1.1)
abbrev pub makes_dialog : HeldRequest → ℕ → Bool
makes_dialog held status =
    makes_or_confirms_dialog held status && not (has_to_tag held.request) && is_none held.dialog

-- the dialog that an answer makes at the callee (RFC 3261, section 12.1.1)
abbrev pub made_dialog : Id → HeldRequest → ℕ → HeldDialog
made_dialog event held status = record {
  dialog = opened_by_request held.request held.tag status;
  address = held.reply_to;
  invite = held.id;
  created_by = event;
  last_rseq = None;
  pending_requests = [];
}

-- a 2xx confirms the dialog that an earlier response made
abbrev pub confirms_dialog : HeldRequest → ℕ → Bool
confirms_dialog held status =
    makes_or_confirms_dialog held status && is_success status && not (has_to_tag held.request)

-- any other final response ends the early dialogs
abbrev pub rejects : HeldRequest → ℕ → Bool
rejects held status = is_invite held.request && nat_le 300 status

-- the dialogs after it: one more, one confirmed, or without the early ones of a rejected INVITE
abbrev pub dialogs_answered : Id → HeldRequest → ℕ → Message → Dialogs → Dialogs × List CallOut
dialogs_answered event held status response dialogs =
    let name = dialog_id_of held.request held.tag in
    if makes_dialog held status
    then (insert_entry is_dialog_id dialogs name (made_dialog event held status), [])
    else if confirms_dialog held status then (dialog_changed name (confirmed response) dialogs, [])
    else if rejects held status then early_ended held.id dialogs
    else (dialogs, [])

-- what happens to the request: it has the dialog that is made
abbrev pub makes : Id → HeldRequest → ℕ → List RequestHappening
makes event held status =
    if makes_dialog held status
    then MakesDialog record { name = dialog_id_of held.request held.tag; created_by = event } ∷ []
    else []

-- the held request after that
abbrev pub with_dialog : Id → ℕ → HeldRequest → HeldRequest
with_dialog event status held = went_on (makes event held status) held

-- the held request after an answer
abbrev pub after_answer : Id → Respond → Message → ℕ → HeldRequest → HeldRequest
after_answer event respond response now held =
    answered respond.status respond.reliability response now (with_dialog event respond.status held)

-- ---- all of it

-- what is held after the answer to the request of this id, and the notices of the dialogs that end
abbrev pub answer_noted : State → Id → Id → ℕ → Reliability → Message → ℕ → HeldRequest → ServedTaken
answer_noted state id event status reliability response now held =
    let dialogs = dialogs_answered event held status response state.dialogs in (
      record state {
        requests = changed_at id (λ request. answered status reliability response now
            (with_dialog event status request)) state.requests;
        dialogs = dialogs.0;
      },
      dialogs.1,
    )

-- an answer goes to the transaction of its request
abbrev pub answer_given : State → Id → Respond → ℕ → HeldRequest → ServedTaken
answer_given state event respond now held =
    let response = answer_to state.local held respond in
    let noted = answer_noted state respond.id event respond.status respond.reliability response now
    held in
    (noted.0, Command held.id (Answer held.key response) ∷ noted.1)

-- an answer is refused, and nothing changes; or it is given
abbrev pub by_refusal : State → Id → Respond → ℕ → HeldRequest → Option Refusal → ServedTaken
by_refusal state event respond now held (Some refusal) =
    (state, refused event respond.call_id refusal)
by_refusal state event respond now held None = answer_given state event respond now held

-- an answer to a held request, or to none
abbrev pub by_request : State → Id → Respond → ℕ → Option HeldRequest → ServedTaken
by_request state event respond now None = (state, refused event respond.call_id NoSuchRequest)
by_request state event respond now (Some held) =
    by_refusal state event respond now held (refusal_for state.dialogs respond held)

-- the answer to the request of its id
abbrev pub respond_taken : State → Id → Respond → ℕ → ServedTaken
respond_taken state event respond now =
    by_request state event respond now (find (has_id respond.id) state.requests)
