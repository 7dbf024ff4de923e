-- A request that comes up, other than a CANCEL: which case it is, and what happens then (RFC 3261,
-- sections 8.2 and 12.2.2; RFC 3262, section 3).
use Rattle.std.specs.Prelude.{ℕ, Bool, false, not, ◌&&◌, ◌||◌, ◌==◌, List, [], ◌∷◌, ◌++◌, Option, None, Some, codes, find, filter, if◌then◌else◌}
use Rattle.std.specs.List.{list_any, join_by}
use Rattle.std.specs.Option.{option_map, option_map_or}
use Rattle.std.specs.Str.{bytes_eq, str_eq_ignore_ascii_case}
use Rattle.sip_message.specs.declared.addr.Addr.{Addr}
use Rattle.sip_message.specs.declared.header.Header.{Header}
use Rattle.sip_message.specs.declared.id.Id.{Id}
use Rattle.sip_message.specs.declared.message.Message.{Message}
use Rattle.sip_message.specs.declared.rack.RAck.{RAck}
use Rattle.sip_message.specs.Party.{tag_of}
use Rattle.sip_message.specs.Response.{response_of}
use Rattle.sip_reliable.specs.Ledger.{ledger_after, waits_for}
use Rattle.sip_transactions.specs.declared.input.Command.TheVariants.{Answer}
use Rattle.sip_transactions.specs.declared.output.Up.{Up}
use Rattle.sip_served.specs.declared.arrival.Arrival.{Arrival}
use Rattle.sip_served.specs.declared.arrival.ArrivalCase.{ArrivalCase}
use Rattle.sip_served.specs.declared.arrival.ArrivalCase.TheVariants.{Merged, BadExtension, NoDialog, OutOfOrder, Acknowledges, AcknowledgesNothing, ForUser}
use Rattle.sip_held_dialogs.specs.declared.held_dialog.DialogReference.{DialogReference}
use Rattle.sip_held_dialogs.specs.declared.held_dialog.DialogId.{DialogId}
use Rattle.sip_held_dialogs.specs.declared.held_dialog.HeldDialog.{HeldDialog}
use Rattle.sip_served.specs.declared.held_request.HeldRequest.{HeldRequest}
use Rattle.sip_user.specs.declared.item.CallOut.{CallOut}
use Rattle.sip_user.specs.declared.item.CallOut.TheVariants.{Notice, Command}
use Rattle.sip_user.specs.declared.notice.Notice.{Notice as ANotice}
use Rattle.sip_user.specs.declared.notice.Notice.TheVariants.{Prack, Request}
use Rattle.sip_held_dialogs.specs.Dialogs.{dialog_at, dialog_changed, ended_at, is_dialog_id, dialog_of_request, takes, visited, Dialogs}
use Rattle.sip_held_dialogs.specs.Requests.{dialog_id_of, is_bye, has_to_tag, is_invite, is_prack, is_unknown_option, local_tag_of, supports_100rel}
use Rattle.sip_held_dialogs.specs.Ids.{is_id}
use Rattle.sip_served.specs.RequestLife.{TakesPrack, went_on}
use Rattle.sip_served.specs.State.{State, ServedTaken, changed_at, followed, quiet}

-- ---- what comes up, and what is held of it

-- the RSeq of the first reliable provisional response to a request
abbrev pub first_rseq : ℕ
first_rseq = 1

-- a request as its transaction hands it up: the To tag of its answers is its own, or `tag` if it
-- has none
abbrev pub arrival_of : Up → Message → Addr → List ℕ → Arrival
arrival_of up request reply_to tag = record {
  id = up.id;
  key = up.key;
  request = request;
  reply_to = reply_to;
  tag = local_tag_of request tag;
}

-- a request as it is held at first: no answer to it was sent
abbrev pub held_first : Option DialogReference → Arrival → HeldRequest
held_first dialog arrival = record {
  id = arrival.id;
  key = arrival.key;
  request = arrival.request;
  reply_to = arrival.reply_to;
  tag = arrival.tag;
  dialog = dialog;
  ledger = ledger_after first_rseq (supports_100rel arrival.request) [];
  provisionals = [];
  success = None;
  removal = None;
}

-- ---- which case it is

-- the same request came up by another path (RFC 3261, section 8.2.2.2)
abbrev pub is_merged : Message → HeldRequest → Bool
is_merged request held =
    str_eq_ignore_ascii_case (tag_of held.request.from) (tag_of request.from)
    && (held.request.cseq.number == request.cseq.number)
    && bytes_eq held.request.cseq.method request.cseq.method

-- the request belongs to this dialog
abbrev pub is_in_dialog : DialogId → Id → HeldRequest → Bool
is_in_dialog name created_by held =
    option_map_or (λ life. is_dialog_id life.name name && is_id life.created_by created_by)
    held.dialog false

-- the RAck of a PRACK names a reliable provisional response to this INVITE that still waits
abbrev pub is_named_by : RAck → HeldRequest → Bool
is_named_by rack held =
    is_invite held.request && bytes_eq rack.method held.request.cseq.method
    && (held.request.cseq.number == rack.cseq)
    && waits_for rack.rseq held.ledger

-- the INVITE of the dialog that the RAck names; if several fit, the first
abbrev pub named_invite : List HeldRequest → DialogId → Id → RAck → Option Id
named_invite requests name created_by rack =
    option_map (λ held. held.id)
    (find (λ held. is_in_dialog name created_by held && is_named_by rack held) requests)

-- a PRACK: a response waits that its RAck names, or it acknowledges nothing (RFC 3262, section 3)
abbrev pub prack_case : List HeldRequest → DialogId → Id → Option RAck → ArrivalCase
prack_case requests name created_by None = AcknowledgesNothing
prack_case requests name created_by (Some rack) =
    option_map_or (λ id. Acknowledges id rack.rseq) (named_invite requests name created_by rack)
    AcknowledgesNothing

-- a request in a dialog, which may be held or not
abbrev pub case_inside : List HeldRequest → DialogId → Message → Option HeldDialog → ArrivalCase
case_inside requests name request None = NoDialog
case_inside requests name request (Some held) =
    if not (takes held request.cseq.number) then OutOfOrder
    else if is_prack request then prack_case requests name held.created_by request.rack
    else ForUser

-- a request outside of any dialog
abbrev pub case_outside : Message → ArrivalCase
case_outside request = if is_bye request || is_prack request then NoDialog else ForUser

-- the first case that fits
abbrev pub case_of : List HeldRequest → Dialogs → DialogId → Message → ArrivalCase
case_of requests dialogs name request =
    if not (has_to_tag request) && list_any (is_merged request) requests then Merged
    else if list_any is_unknown_option request.require then BadExtension
    else if has_to_tag request then case_inside requests name request (dialog_at name dialogs)
    else case_outside request

-- ---- what the agent answers by itself

-- the command that gives a response to the transaction of the request
abbrev pub command_for : Arrival → Message → CallOut
command_for arrival response = Command arrival.id (Answer arrival.key response)

-- the agent answers by itself
abbrev pub answered_with : Arrival → ℕ → List ℕ → List CallOut
answered_with arrival status reason =
    command_for arrival (response_of arrival.request status reason arrival.tag) ∷ []

-- `Unsupported: foo, bar`
abbrev pub unsupported : List (List ℕ) → Header
unsupported options =
    record { name = codes "Unsupported"; value = join_by (λ option. option) (codes ", ") options }

-- a message with one more header
abbrev pub with_header : Header → Message → Message
with_header header message = record message { others = message.others ++ header ∷ [] }

-- a 420 names the options that the agent doesn't know (RFC 3261, section 8.2.2.3)
abbrev pub refused_extension : Arrival → List CallOut
refused_extension arrival =
    command_for arrival
    (with_header (unsupported (filter is_unknown_option arrival.request.require))
    (response_of arrival.request 420 (codes "Bad Extension") arrival.tag))
    ∷ []

-- the agent answers 481
abbrev pub no_such_dialog : Arrival → List CallOut
no_such_dialog arrival = answered_with arrival 481 (codes "Call/Transaction Does Not Exist")

-- ---- a PRACK that names a response that waits for it

-- the response of this RSeq no longer waits, and is no longer kept
abbrev pub pracked : ℕ → HeldRequest → HeldRequest
pracked rseq held = went_on (TakesPrack rseq ∷ []) held

-- a PRACK for a response that waits: it gets 200, and the user is told
abbrev pub prack_taken : State → List ℕ → Arrival → Id → ℕ → ServedTaken
prack_taken state call_id arrival invite rseq = (
  record state { requests = changed_at invite (pracked rseq) state.requests },
  command_for arrival (response_of arrival.request 200 (codes "OK") arrival.tag)
      ∷ Notice (Prack call_id invite rseq arrival.request.body) ∷ [],
)

-- ---- a request for the user

-- the user is told of a request
abbrev pub request_notice : List ℕ → Arrival → ANotice
request_notice call_id arrival =
    Request call_id arrival.id arrival.request.cseq.method arrival.tag
    (tag_of arrival.request.from) arrival.request.body

-- the request as it is held, in the dialog of this name if it came in one
abbrev pub in_its_dialog : Dialogs → DialogId → Arrival → HeldRequest
in_its_dialog dialogs name arrival =
    held_first (dialog_of_request arrival.request name dialogs) arrival

-- the request is held, and the user is told
abbrev pub request_held : State → List ℕ → DialogId → Arrival → ServedTaken
request_held state call_id name arrival = (
  record state { requests = state.requests ++ in_its_dialog state.dialogs name arrival ∷ [] },
  Notice (request_notice call_id arrival) ∷ [],
)

-- a BYE in a dialog ends it (RFC 3261, section 15.1.2)
abbrev pub bye_taken : Message → DialogId → State → ServedTaken
bye_taken request name state =
    if has_to_tag request && is_bye request
    then (
      record state { dialogs = (ended_at name state.dialogs).0 },
      (ended_at name state.dialogs).1,
    )
    else quiet state

-- a request for the user is held; a BYE ends its dialog
abbrev pub for_user : State → List ℕ → DialogId → Arrival → ServedTaken
for_user state call_id name arrival =
    followed (request_held state call_id name arrival) (bye_taken arrival.request name)

-- ---- all of it

-- a request in a dialog is noted in that dialog
abbrev pub noted : State → DialogId → Message → State
noted state name request =
    if has_to_tag request
    then record state { dialogs = dialog_changed name (visited request) state.dialogs }
    else state

-- what happens, case by case
abbrev pub by_case : ArrivalCase → State → List ℕ → DialogId → Arrival → ServedTaken
by_case Merged state call_id name arrival =
    (state, answered_with arrival 482 (codes "Loop Detected"))
by_case BadExtension state call_id name arrival = (state, refused_extension arrival)
by_case NoDialog state call_id name arrival = (state, no_such_dialog arrival)
by_case OutOfOrder state call_id name arrival =
    (state, answered_with arrival 500 (codes "Server Internal Error"))
by_case (Acknowledges invite rseq) state call_id name arrival =
    prack_taken (noted state name arrival.request) call_id arrival invite rseq
by_case AcknowledgesNothing state call_id name arrival =
    (noted state name arrival.request, no_such_dialog arrival)
by_case ForUser state call_id name arrival =
    for_user (noted state name arrival.request) call_id name arrival

-- a request of a transaction of this Call-ID
abbrev pub request_taken : State → List ℕ → Arrival → ServedTaken
request_taken state call_id arrival =
    let name = dialog_id_of arrival.request arrival.tag in
    by_case (case_of state.requests state.dialogs name arrival.request) state call_id name arrival
