-- The rules of what comes up to the server side of a Call-ID: requests (RFC 3261, sections 8.2 and
-- 12.2.2), CANCELs (section 9.2), PRACKs (RFC 3262, section 3) and ACKs (section 13.3.1.4). Read
-- from the end: server_received takes what comes up, request_received a request by the first case
-- that fits, ack_received an ACK; the cases come before them.
use Rattle.std.specs.Prelude.{ℕ, Bool, false, true, not, ◌+◌, ◌&&◌, ◌||◌, ◌==◌, List, [], ◌∷◌, ◌++◌, Option, None, Some, codes, find, filter, is_none, nat_le, reverse, unwrap_or, if◌then◌else◌}
use Rattle.std.specs.List.{list_any, join_by}
use Rattle.std.specs.Option.{option_map, option_map_or}
use Rattle.std.specs.Str.{bytes_eq, str_eq_ignore_ascii_case}
use Rattle.sip_message.specs.declared.header.Header.{Header}
use Rattle.sip_message.specs.declared.id.Id.{Id}
use Rattle.sip_message.specs.declared.key.Key.{Key}
use Rattle.sip_message.specs.declared.key.Key.TheVariants.{Server}
use Rattle.sip_message.specs.declared.message.Message.{Message}
use Rattle.sip_message.specs.declared.rack.RAck.{RAck}
use Rattle.sip_message.specs.Party.{tag_of}
use Rattle.sip_message.specs.Response.{response_of}
use Rattle.sip_dialog.specs.Dialog.{is_ended}
use Rattle.sip_dialog.specs.Opening.{contact_uri}
use Rattle.sip_reliable.specs.Ledger.{acknowledged, closed_now, waits_for}
use Rattle.sip_timers.specs.declared.estimate.TheConstants.{LIFETIME}
use Rattle.sip_transactions.specs.declared.input.Command.TheVariants.{Answer}
use Rattle.sip_transactions.specs.declared.output.UpKind.{UpKind}
use Rattle.sip_transactions.specs.declared.output.UpKind.TheVariants as kind
use Rattle.sip_transactions.specs.declared.output.Up.{Up}
use Rattle.sip_user.specs.declared.command.UserCommand.TheVariants.{Respond}
use Rattle.sip_held_dialogs.specs.declared.held_dialog.DialogId.{DialogId}
use Rattle.sip_held_dialogs.specs.declared.held_dialog.HeldDialog.{HeldDialog}
use Rattle.sip_user.specs.declared.item.CallOut.{CallOut}
use Rattle.sip_user.specs.declared.item.CallOut.TheVariants.{Notice, Command}
use Rattle.sip_user.specs.declared.item.Item.{Item}
use Rattle.sip_user.specs.declared.item.Item.TheVariants as item
use Rattle.sip_user.specs.declared.notice.Notice.TheVariants.{Ack, Cancel, Prack, Request}
use Rattle.sip_held_dialogs.specs.Dialogs.{dialog_at, dialog_changed, early_ended, ended_at, is_dialog_id, dialog_of_request}
use Rattle.sip_held_dialogs.specs.Ids.{is_id}
use Rattle.sip_held_dialogs.specs.Requests.{dialog_id_of, is_bye, is_cancel, has_to_tag, is_invite, is_prack, is_unknown_option, local_tag_of, supports_100rel}
use Rattle.sip_served.specs.declared.arrival.Arrival.{Arrival}
use Rattle.sip_served.specs.declared.held_request.HeldRequest.{HeldRequest}
use Rattle.sip_served.specs.declared.held_request.Success.{Success}
use Rattle.sip_served.specs.declared.held_request.SuccessEnd.TheVariants.{Acknowledged}
use Rattle.sip_served.specs.Rules.Responses.{respond_command}
use Rattle.sip_served.specs.State.{State, ServedTaken, changed_at}

-- the agent responds to a request by itself
abbrev pub own_response : Arrival → ℕ → List ℕ → List CallOut
own_response arrival status reason =
    let response = response_of arrival.request status reason arrival.tag in
    Command arrival.id (Answer arrival.key response) ∷ []

-- a 481
abbrev pub no_such_call : State → Arrival → ServedTaken
no_such_call state arrival =
    (state, own_response arrival 481 (codes "Call/Transaction Does Not Exist"))

-- ---- for the user

-- A request for the user is held; no response was sent yet. Its notice: Call-ID, id, method, local
-- and remote tag, body. A BYE in a dialog ends it (RFC 3261, section 15.1.2). The first RSeq is 1.
-- The ledger says when each reliable response is sent again, `provisionals` has its message.
abbrev pub request_for_user : State → List ℕ → DialogId → Arrival → ServedTaken
request_for_user state call_id name arrival =
    let request = arrival.request in
    let supported = supports_100rel request in
    let held : HeldRequest = record {
      id = arrival.id;
      key = arrival.key;
      request = request;
      reply_to = arrival.reply_to;
      tag = arrival.tag;
      dialog = dialog_of_request request name state.dialogs;
      ledger = record { first = 1; next = 1; supported = supported; closed = false; waiting = [] };
      provisionals = [];
      success = None;
      removal = None;
    } in
    let ends = has_to_tag request && is_bye request in
    let after = if ends then ended_at name state.dialogs else (state.dialogs, []) in (
      record state { requests = state.requests ++ held ∷ []; dialogs = after.0 },
      Notice (Request call_id arrival.id request.cseq.method arrival.tag (tag_of request.from)
          request.body) ∷ after.1,
    )

-- ---- a PRACK

-- a held INVITE whose dialog (`reference`) has this name and was made by the event `created_by`;
-- the RAck names a reliable provisional response to it that still waits for its PRACK
abbrev pub is_named_by : RAck → DialogId → Id → HeldRequest → Bool
is_named_by rack name created_by held =
    option_map_or (λ reference. is_dialog_id reference.name name
    && is_id reference.created_by created_by) held.dialog false
    && is_invite held.request && bytes_eq rack.method held.request.cseq.method
    && (held.request.cseq.number == rack.cseq) && waits_for rack.rseq held.ledger

-- that response isn't sent again, and no longer kept
abbrev pub after_prack : ℕ → HeldRequest → HeldRequest
after_prack rseq held = record held {
  ledger = acknowledged rseq held.ledger;
  provisionals = filter (λ one. not (one.number == rseq)) held.provisionals;
}

-- the PRACK of a response to this INVITE: it gets a 200, and the user is told
abbrev pub prack_for : State → List ℕ → Arrival → RAck → HeldRequest → ServedTaken
prack_for state call_id arrival rack invite = (
  record state { requests = changed_at invite.id (after_prack rack.rseq) state.requests },
  own_response arrival 200 (codes "OK")
      ++ Notice (Prack call_id invite.id rack.rseq arrival.request.body) ∷ [],
)

-- A PRACK in a held dialog is for the INVITE of its RAck; if none: 481 (RFC 3262, section 3).
abbrev pub prack_received : State → List ℕ → DialogId → Id → Arrival → Option RAck → ServedTaken
prack_received state call_id name created_by arrival None = no_such_call state arrival
prack_received state call_id name created_by arrival (Some rack) =
    option_map_or (prack_for state call_id arrival rack)
    (find (is_named_by rack name created_by) state.requests) (no_such_call state arrival)

-- ---- a CANCEL

-- two keys (in lower case) have the same branch and sent-by, whatever their methods
abbrev pub is_same_branch : Key → Key → Bool
is_same_branch (Server branch sent_by method) (Server other other_sent_by other_method) =
    bytes_eq branch other && bytes_eq sent_by.host other_sent_by.host
    && (sent_by.port == other_sent_by.port)
is_same_branch _ _ = false

-- The 487 is the final response, so it sets `removal`: 64*T1 later the request is removed.
abbrev pub after_487 : ℕ → HeldRequest → HeldRequest
after_487 now held =
    record held { ledger = closed_now held.ledger; removal = Some (now + LIFETIME) }

-- The CANCEL of this request gets a 200 with the To tag of the request's responses. An INVITE
-- without a final response (no `removal`) gets a 487, the user is told, and its early dialogs end.
abbrev pub cancel_for : State → List ℕ → Arrival → ℕ → HeldRequest → ServedTaken
cancel_for state call_id arrival now held =
    let ok = own_response (record arrival { tag = held.tag }) 200 (codes "OK") in
    let terminated = response_of held.request 487 (codes "Request Terminated") held.tag in
    let after = early_ended held.id state.dialogs in
    if not (is_invite held.request && is_none held.removal) then (state, ok)
    else (
      record state {
        requests = changed_at held.id (after_487 now) state.requests;
        dialogs = after.0;
      },
      ok ++ Command held.id (Answer held.key terminated) ∷ Notice (Cancel call_id held.id)
          ∷ after.1,
    )

-- A CANCEL is for the held request of its branch and sent-by; if several (of other methods) have
-- them, for the last; if none has, it gets 481 (RFC 3261, section 9.2).
abbrev pub cancel_received : State → List ℕ → Arrival → ℕ → ServedTaken
cancel_received state call_id arrival now =
    option_map_or (cancel_for state call_id arrival now)
    (find (λ held. is_same_branch arrival.key held.key) (reverse state.requests))
    (no_such_call state arrival)

-- ---- any request

-- a merged request: a held one has its From tag and CSeq (RFC 3261, section 8.2.2.2)
abbrev pub is_merged : Message → HeldRequest → Bool
is_merged request held =
    str_eq_ignore_ascii_case (tag_of held.request.from) (tag_of request.from)
    && (held.request.cseq.number == request.cseq.number)
    && bytes_eq held.request.cseq.method request.cseq.method

-- a 420 that names the options that the agent doesn't know (RFC 3261, section 8.2.2.3)
abbrev pub bad_extension : State → Arrival → ServedTaken
bad_extension state arrival =
    let request = arrival.request in
    let unknown = join_by (λ o. o) (codes ", ") (filter is_unknown_option request.require) in
    let unsupported : Header = record { name = codes "Unsupported"; value = unknown } in
    let refusal = response_of request 420 (codes "Bad Extension") arrival.tag in
    let refused = record refusal { others = unsupported ∷ [] } in
    (state, Command arrival.id (Answer arrival.key refused) ∷ [])

-- The number is above the last that came in the dialog, if any came (RFC 3261, section 12.2.2; own:
-- an equal one isn't above). A dialog that ends isn't held.
abbrev pub is_above : HeldDialog → ℕ → Bool
is_above held_dialog number = not (is_ended held_dialog.dialog.state)
    && option_map_or (λ last. not (nat_le number last)) held_dialog.dialog.remote_cseq true

-- the dialog after a request in it: its number; if it is a re-INVITE, its Contact as remote target
abbrev pub after_request : Message → HeldDialog → HeldDialog
after_request request held_dialog =
    let contact = if is_invite request then contact_uri request else None in
    record held_dialog {
      dialog = record held_dialog.dialog {
        remote_cseq = Some request.cseq.number;
        target = unwrap_or contact held_dialog.dialog.target;
      };
    }

-- A request in this held dialog: 500 if its number isn't above; a PRACK (its number counts even if
-- it gets 481); or for the user.
abbrev pub request_in_dialog : State → List ℕ → DialogId → Arrival → HeldDialog → ServedTaken
request_in_dialog state call_id name arrival held_dialog =
    let request = arrival.request in
    let dialogs = dialog_changed name (after_request request) state.dialogs in
    let noted : State = record state { dialogs = dialogs } in
    if not (is_above held_dialog request.cseq.number)
    then (state, own_response arrival 500 (codes "Server Internal Error"))
    else if is_prack request
    then prack_received noted call_id name held_dialog.created_by arrival request.rack
    else request_for_user noted call_id name arrival

-- A request that comes up, by the first case that fits (RFC 3261, sections 8.2 and 12.2.2): a
-- CANCEL; 482 if it is merged and has no To tag; 420; with a To tag 481 if its dialog isn't held,
-- otherwise request_in_dialog (500, PRACK, for the user); without one 481 for a BYE or a PRACK; for
-- the user.
unfoldable pub request_received : State → List ℕ → Arrival → ℕ → ServedTaken
request_received state call_id arrival now =
    let request = arrival.request in
    let name = dialog_id_of request arrival.tag in
    if is_cancel request then cancel_received state call_id arrival now
    else if not (has_to_tag request) && list_any (is_merged request) state.requests
    then (state, own_response arrival 482 (codes "Loop Detected"))
    else if list_any is_unknown_option request.require then bad_extension state arrival
    else if has_to_tag request
    then option_map_or (request_in_dialog state call_id name arrival)
    (dialog_at name state.dialogs) (no_such_call state arrival)
    else if is_bye request || is_prack request then no_such_call state arrival
    else request_for_user state call_id name arrival

-- ---- an ACK

-- an INVITE with the tags and number of this ACK, whose 2xx waits for it (`over` is None)
abbrev pub awaits : Message → HeldRequest → Bool
awaits ack held =
    is_invite held.request
    && option_map_or (λ success. is_none success.over) held.success false
    && str_eq_ignore_ascii_case (tag_of ack.to) held.tag
    && str_eq_ignore_ascii_case (tag_of ack.from) (tag_of held.request.from)
    && (ack.cseq.number == held.request.cseq.number)

-- the INVITE after its ACK: its 2xx isn't sent again
abbrev pub after_ack : HeldRequest → HeldRequest
after_ack held = record held {
  success = option_map (λ (success : Success). record success { over = Some Acknowledged })
      held.success;
}

-- the ACK of this INVITE: the user is told
abbrev pub ack_for : State → List ℕ → Message → HeldRequest → ServedTaken
ack_for state call_id ack invite = (
  record state { requests = changed_at invite.id after_ack state.requests },
  Notice (Ack call_id invite.id ack.body) ∷ [],
)

-- The ACK of a 2xx (RFC 3261, section 13.3.1.4). Any other ACK changes and tells nothing.
unfoldable pub ack_received : State → List ℕ → Message → ServedTaken
ack_received state call_id ack =
    option_map_or (ack_for state call_id ack) (find (awaits ack) state.requests) (state, [])

-- ---- what comes up

-- What a transaction hands up: the server side takes the requests and the ACKs. `made` is the To
-- tag of the responses to a request without one.
abbrev pub server_received : State → List ℕ → Up → UpKind → ℕ → ServedTaken
server_received state made up (kind.Request request reply_to) now =
    let tag = local_tag_of request made in
    request_received state up.call_id
    record { id = up.id; key = up.key; request = request; reply_to = reply_to; tag = tag } now
server_received state made up (kind.Ack ack) now = ack_received state up.call_id ack
server_received state made up _ now = (state, [])

-- ---- for steps and laws: `run` needs nothing of what follows

-- The server side after an item, at a moment in ms: what comes up, or the user's response.
abbrev pub server_item : State → List ℕ → Id → Item → ℕ → ServedTaken
server_item state tag id (item.Up up) now = server_received state tag up up.kind now
server_item state tag id (item.User (Respond answer)) now = respond_command state id answer now
server_item state tag id _ now = (state, [])
