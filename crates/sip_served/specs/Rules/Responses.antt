-- The rules of the user's answer to a held request: when it is refused, the response that goes out,
-- and what is held then (RFC 3261, sections 8.2.6, 12.1.1 and 13.3.1; RFC 3262, section 3). Read
-- from the end: respond_command finds the request, respond_to refuses or sends; the parts come
-- before them.
use Rattle.std.specs.Prelude.{ℕ, ◌+◌, Bool, true, false, not, ◌&&◌, ◌||◌, nat_le, nat_lt, List, [], ◌∷◌, ◌++◌, length, Option, None, Some, codes, find, is_some, is_none, if◌then◌else◌}
use Rattle.std.specs.List.{list_any}
use Rattle.std.specs.Option.{option_map_or}
use Rattle.indexmap.specs.IndexMap.{insert_entry}
use Rattle.sip_message.specs.declared.addr.Addr.{Addr}
use Rattle.sip_message.specs.declared.id.Id.{Id}
use Rattle.sip_message.specs.declared.message.Message.{Message}
use Rattle.sip_message.specs.Content.{with_content_of}
use Rattle.sip_message.specs.Response.{response_of}
use Rattle.sip_dialog.specs.Dialog.{is_ended}
use Rattle.sip_dialog.specs.Opening.{opened_by_request}
use Rattle.sip_dialog.specs.Step.{confirmed_by}
use Rattle.sip_dialog.specs.Request.{contact_of}
use Rattle.sip_reliable.specs.Ledger.{closed_now, must_wait}
use Rattle.sip_reliable.specs.Provisional.{Provisional}
use Rattle.sip_timers.specs.declared.estimate.TheConstants.{LIFETIME, T1}
use Rattle.sip_transactions.specs.declared.input.Command.TheVariants.{Answer}
use Rattle.sip_user.specs.declared.command.Reliability.{Reliability}
use Rattle.sip_user.specs.declared.command.Reliability.TheVariants.{Plain, Reliable}
use Rattle.sip_user.specs.declared.command.Respond.{Respond}
use Rattle.sip_held_dialogs.specs.declared.held_dialog.DialogReference.{DialogReference}
use Rattle.sip_held_dialogs.specs.declared.held_dialog.HeldDialog.{HeldDialog}
use Rattle.sip_user.specs.declared.item.CallOut.{CallOut}
use Rattle.sip_user.specs.declared.item.CallOut.TheVariants.{Command}
use Rattle.sip_user.specs.declared.refusal.Refusal.{Refusal}
use Rattle.sip_user.specs.declared.refusal.Refusal.TheVariants.{NoSuchRequest, AlreadyFinal, BadStatus, ReliablePending, NotSupported, SequenceUsedUp, DialogEnded}
use Rattle.sip_held_dialogs.specs.Dialogs.{Dialogs, dialog_changed, early_ended, is_dialog_id, lives}
use Rattle.sip_user.specs.Notices.{refused}
use Rattle.sip_user.specs.Refusal.{first_refusal}
use Rattle.sip_held_dialogs.specs.Requests.{dialog_id_of, is_final, has_to_tag, is_invite, is_provisional, is_success, requires_100rel, supports_100rel}
use Rattle.sip_served.specs.declared.held_request.HeldRequest.{HeldRequest}
use Rattle.sip_served.specs.declared.held_request.Success.{Success}
use Rattle.sip_served.specs.State.{State, ServedTaken, changed_at, has_id}

-- the user asks for a reliable provisional response
abbrev pub is_reliable : Reliability → Bool
is_reliable Plain = false
is_reliable Reliable = true

-- a response may be sent reliably: a provisional one, to an INVITE whose sender supports 100rel
abbrev pub may_be_reliable : HeldRequest → ℕ → Bool
may_be_reliable held status =
    is_invite held.request && is_provisional status && supports_100rel held.request

-- such a response is sent reliably if the user asks for it, and always if the INVITE requires it
abbrev pub is_sent_reliably : HeldRequest → Respond → Bool
is_sent_reliably held respond =
    may_be_reliable held respond.status
    && (is_reliable respond.reliability || requires_100rel held.request)

-- a response of 101 to 299 to an INVITE (0 to 100 are refused): it makes, confirms or has a dialog
abbrev pub is_dialog_response : HeldRequest → ℕ → Bool
is_dialog_response held status = is_invite held.request && nat_lt status 300

-- it makes a dialog if its INVITE is outside of dialogs and has made none (the tag is new)
abbrev pub makes_dialog : HeldRequest → ℕ → Bool
makes_dialog held status =
    is_dialog_response held status && not (has_to_tag held.request) && is_none held.dialog

-- Why a response is refused: the first case that fits. ReliablePending: a further reliable response
-- while the first waits for its PRACK, while 8 wait, or after they were given up; a 2xx while one
-- with a body waits (RFC 3262, section 3). Two cases don't occur.
abbrev pub response_refusal : Dialogs → HeldRequest → Respond → Option Refusal
response_refusal dialogs held respond =
    let status = respond.status in
    let reliable = is_sent_reliably held respond in
    let ledger = held.ledger in
    let ended = option_map_or (λ reference. not (lives dialogs reference)) held.dialog false in
    first_refusal ((not (nat_le 101 status && nat_le status 699), BadStatus)
    ∷ (is_some held.removal, AlreadyFinal)  -- a final one was sent
    ∷ (is_reliable respond.reliability && not (may_be_reliable held status), NotSupported)
    ∷ (is_dialog_response held status && ended, DialogEnded)
    ∷ (reliable && ledger.closed, AlreadyFinal)  -- doesn't occur: `removal` is set then
    ∷ (reliable && not ledger.supported, NotSupported)  -- doesn't occur: may_be_reliable
    ∷ (reliable && must_wait ledger, ReliablePending)
    ∷ (is_success status && list_any (λ p. p.has_body) ledger.waiting, ReliablePending)
    ∷ (reliable && nat_lt 4294967295 ledger.next, SequenceUsedUp) ∷ []) None

-- What goes out. A response of 101 to 299 to an INVITE has its Record-Route and a Contact (RFC
-- 3261, section 12.1.1), a reliable one `Require: 100rel` and the next RSeq (RFC 3262, section 3).
-- Then come the user's headers and body.
abbrev pub response_sent : Addr → HeldRequest → Respond → Message
response_sent local held respond =
    let routes = held.request.record_routes in
    let bare = response_of held.request respond.status respond.reason held.tag in
    let routed = record bare { contacts = contact_of local ∷ []; record_routes = routes } in
    let plain = if is_dialog_response held respond.status then routed else bare in
    let reliable = record plain { require = codes "100rel" ∷ []; rseq = Some held.ledger.next } in
    with_content_of (if is_sent_reliably held respond then reliable else plain) respond.content

-- the dialog that it makes (RFC 3261, section 12.1.1): routes in order, CSeq 0 sent, that of the
-- INVITE taken; to `address` go requests whose next hop has no IPv4 address
abbrev pub dialog_by_request : Id → HeldRequest → ℕ → HeldDialog
dialog_by_request event held status = record {
  dialog = opened_by_request held.request held.tag status;
  address = held.reply_to;
  invite = held.id;
  created_by = event;
  last_rseq = None;
  pending_requests = [];
}

-- a 2xx confirms its dialog (one that ends isn't held)
abbrev pub after_2xx : Message → HeldDialog → HeldDialog
after_2xx response held_dialog =
    if is_ended held_dialog.dialog.state then held_dialog
    else record held_dialog { dialog = confirmed_by held_dialog.dialog response }

-- The dialogs after it: it makes one, a 2xx confirms it, and any other final response ends the
-- early ones (RFC 3261, sections 12.1.1, 12.3 and 13.3.1). `event`, the user's command, becomes
-- `created_by`, here and in held_after. If the dialog of held.dialog isn't held, the response was
-- refused (DialogEnded). So `name` finds that dialog, not a later one.
abbrev pub dialogs_after : Id → HeldRequest → ℕ → Message → Dialogs → Dialogs × List CallOut
dialogs_after event held status response dialogs =
    let request = held.request in
    let name = dialog_id_of request held.tag in
    if makes_dialog held status
    then (insert_entry is_dialog_id dialogs name (dialog_by_request event held status), [])
    else if is_invite request && is_success status && not (has_to_tag request)
    then (dialog_changed name (after_2xx response) dialogs, [])
    else if is_invite request && nat_le 300 status then early_ended held.id dialogs
    else (dialogs, [])

-- a reliable provisional response, which waits for its PRACK and is sent again after T1
abbrev pub provisional_sent : ℕ → Message → ℕ → Provisional
provisional_sent rseq response now = record {
  number = rseq;
  has_body = nat_lt 0 (length response.body);
  sent = now;
  retransmission = Some record { due = now + T1; repeats = 0 };
}

-- a 2xx to an INVITE, which waits 64*T1 for its ACK and is sent again after T1
abbrev pub success_sent : Message → ℕ → Success
success_sent response now = record {
  response = response;
  end = now + LIFETIME;
  retransmission = record { due = now + T1; interval = T1 };
  over = None;
}

-- The held request after it. A reliable response waits. A final one closes the ledger, and 64*T1
-- later the request is removed. Any other changes only the dialog.
abbrev pub held_after : Id → HeldRequest → Respond → Message → ℕ → HeldRequest
held_after event held respond response now =
    let status = respond.status in
    let ledger = held.ledger in
    let reference : DialogReference = record {
      name = dialog_id_of held.request held.tag;
      created_by = event;
    } in
    let dialog = if makes_dialog held status then Some reference else held.dialog in
    let awaits_ack = is_invite held.request && is_success status in
    if is_sent_reliably held respond
    then record held {
      dialog = dialog;
      ledger =
          record ledger {
            next = ledger.next + 1;
            waiting = ledger.waiting
                ++ provisional_sent ledger.next response now ∷ [];
          };
      provisionals = held.provisionals
          ++ record { number = ledger.next; response = response } ∷ [];
    }
    else if is_final status
    then record held {
      dialog = dialog;
      ledger = closed_now ledger;
      success = if awaits_ack then Some (success_sent response now) else held.success;
      removal = Some (now + LIFETIME);
    }
    else record held { dialog = dialog }

-- the command is refused, and nothing changes
abbrev pub refuse : State → Id → Respond → Refusal → ServedTaken
refuse state event respond refusal = (state, refused event respond.call_id refusal)

-- a response to this held request is refused, or goes out
abbrev pub respond_to : State → Id → Respond → ℕ → HeldRequest → ServedTaken
respond_to state event respond now held =
    let response = response_sent state.local held respond in
    let dialogs = dialogs_after event held respond.status response state.dialogs in
    let after = held_after event held respond response now in
    let requests = changed_at respond.id (λ _. after) state.requests in
    option_map_or (refuse state event respond) (response_refusal state.dialogs held respond) (
      record state { requests = requests; dialogs = dialogs.0 },
      Command held.id (Answer held.key response) ∷ dialogs.1,
    )

-- The command Respond is for the held request of its id.
unfoldable pub respond_command : State → Id → Respond → ℕ → ServedTaken
respond_command state event respond now =
    option_map_or (respond_to state event respond now) (find (has_id respond.id) state.requests)
    (refuse state event respond NoSuchRequest)
