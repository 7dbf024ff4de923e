-- The client side of a call starts transactions with requests. What it sends without a transaction
-- is the text of an ACK.
use Rattle.std.proofs.Common.{◌≡◌, ℕ, Bool, true, false, cond, List, [], ◌∷◌, ◌++◌, map, refl, sym, ap, ◌∙◌, subst}
use Rattle.std.specs.Prelude.{Option, None, Some, IfSome, Result, Ok, Err, codes, filter, find, if◌then◌else◌}
use Rattle.std.proofs.lemmas.Bool.{false≢true}
use Rattle.indexmap.specs.IndexMap.{insert_entry}
use Rattle.std.specs.List.{AllByRecursion}
use Rattle.std.specs.Map.{lookup, set_value, values_of}
use Rattle.std.specs.Option.{option_and_then, option_map, option_map_or}
use Rattle.std.specs.Str.{bytes_eq}
use Rattle.sip_message.specs.Content.{Content, with_content_of}
use Rattle.sip_message.specs.Message.{is_request_line, is_request_message}
use Rattle.sip_message.specs.declared.id.Id.{Id}
use Rattle.sip_message.specs.declared.message.Message.{Message}
use Rattle.sip_message.specs.declared.rack.RAck.{RAck}
use Rattle.sip_message.specs.declared.start_line.StartLine.TheVariants as start
use Rattle.keyed_machine.proofs.Ordered.{by_bool}
use Rattle.sip_dialog.specs.Fault.{ack_fault, request_fault}
use Rattle.sip_dialog.specs.Request.{bare_request_in}
use Rattle.sip_dialog.specs.declared.fault.DialogFault.{DialogFault}
use Rattle.sip_transactions.specs.declared.input.Command.{Command}
use Rattle.sip_transactions.specs.declared.input.Command.TheVariants as order
use Rattle.sip_held_dialogs.specs.Dialogs.{Dialogs, dialog_at, early_ended, ended_at, ended_notice, is_early_of, is_dialog_id, lives}
use Rattle.sip_held_dialogs.specs.Ids.{is_id}
use Rattle.sip_user.specs.Notices.{refused}
use Rattle.sip_held_dialogs.specs.Requests.{is_final}
use Rattle.sip_user.specs.declared.command.AbandonDialog.{AbandonDialog}
use Rattle.sip_user.specs.declared.command.AbandonRequest.{AbandonRequest}
use Rattle.sip_user.specs.declared.command.Cancel.{Cancel as CancelCommand}
use Rattle.sip_user.specs.declared.command.DialogBody.{DialogBody}
use Rattle.sip_user.specs.declared.command.DialogRequest.{DialogRequest}
use Rattle.sip_user.specs.declared.command.Invite.{Invite as InviteCommand}
use Rattle.sip_user.specs.declared.command.Plain.{Plain as PlainCommand}
use Rattle.sip_user.specs.declared.command.ProvisionalSupport.{ProvisionalSupport}
use Rattle.sip_user.specs.declared.command.ProvisionalSupport.TheVariants as support
use Rattle.sip_held_dialogs.specs.declared.pending_request.PendingRequest.{PendingRequest}
use Rattle.sip_held_dialogs.specs.declared.pending_request.PendingRequest.TheVariants.{Ack, Prack}
use Rattle.sip_held_dialogs.specs.declared.held_dialog.DialogId.{DialogId}
use Rattle.sip_held_dialogs.specs.declared.held_dialog.HeldDialog.{HeldDialog}
use Rattle.sip_user.specs.declared.item.CallOut.{CallOut}
use Rattle.sip_user.specs.declared.item.CallOut.TheVariants as out
use Rattle.sip_user.specs.declared.refusal.Refusal.{Refusal}
use Rattle.sip_user.specs.declared.refusal.Refusal.TheVariants.{BadMethod, NoSuchDialog}
use Rattle.sip_held_dialogs.proofs.Each.{all_of_each, both, each_but_one, each_changed, each_inserted, each_left, each_set, found_one}
use Rattle.sip_clients.specs.Answers.{ack_of}
use Rattle.sip_clients.specs.Abandon.{dialog_abandoned, dialog_abandoned_of, request_abandoned, request_abandoned_of}
use Rattle.sip_clients.specs.Cancel.{after_response, asked, cancel_by_user, cancel_case, cancel_client, cancelled_as, cancelled_of, freed_by, sent_beside}
use Rattle.sip_clients.specs.Client.{Clients, ClientTaken, Side, client_at, client_changed, client_for}
use Rattle.sip_clients.specs.Clients.{ack_by_user, ack_kept, ack_paid, acked_with, found_taken, invite_taken, lost_of, paid_or_refused, plain_taken, prack_by_user, prack_paid, reply_name, reply_of, reply_settled, request_by_user, request_lost, response_taken, settled, started, status_of}
use Rattle.sip_clients.specs.Commands.{bye_ended, pending_for, debt_or_refusal, is_bad_outside, name_in, oldest_pending, request_in_held, requested_at}
use Rattle.sip_clients.specs.Pending.{is_of, kept_pending, sent_pending}
use Rattle.sip_clients.specs.Dialogs.{accepted, dialog_for_provisional, ended_with, own_ended, paid_at, served_at}
use Rattle.sip_clients.specs.Event.{branch_of}
use Rattle.sip_clients.specs.Outputs.{ack_said, direct, request_said, start_command}
use Rattle.sip_clients.specs.Outside.{bare_invite, bare_plain, bare_request, invite_of, plain_of, supporting, through}
use Rattle.sip_clients.specs.Replied.{InOneDialog, Replied, ack_owed, after_dialog, by_reply_case, ends_dialog, heard_again, heard_first, automatic_body, prack_owed, replied_in, reply_taken, request_over}
use Rattle.sip_clients.specs.ReceivedResponse.{is_last, reply_case}
use Rattle.sip_clients.specs.SendOutcome.{Outcome, acked, discharged, requested, sending_in, outcome_by}
use Rattle.sip_clients.specs.Tick.{clients_ticked, early_ends_told, is_over}
use Rattle.sip_clients.specs.declared.answers.SentAck.{SentAck}
use Rattle.sip_clients.specs.declared.cancel_command.CancelCase.{CancelCase}
use Rattle.sip_clients.specs.declared.cancel_command.CancelCase.TheVariants as ask
use Rattle.sip_clients.specs.declared.client.Cancelling.{Cancelling}
use Rattle.sip_clients.specs.declared.client.Cancelling.TheVariants as cancel
use Rattle.sip_clients.specs.declared.client.Client.{Client}
use Rattle.sip_clients.specs.declared.client.RequestKind.{RequestKind}
use Rattle.sip_clients.specs.declared.client.RequestKind.TheVariants.{InitialInvite, ReInvite, InDialog, OutOfDialog}
use Rattle.sip_clients.specs.declared.pending.PendingKind.{PendingKind}
use Rattle.sip_clients.specs.declared.pending.PendingKind.TheVariants as kind
use Rattle.sip_clients.specs.declared.event.Event.{Event}
use Rattle.sip_clients.specs.declared.outputs.ClientChange.{ClientChange}
use Rattle.sip_clients.specs.declared.outputs.ClientChange.TheVariants.{Stays, Over, Starts}
use Rattle.sip_clients.specs.declared.reply.ReceivedResponse.{ReceivedResponse}
use Rattle.sip_clients.specs.declared.reply.ReplyCase.{ReplyCase}
use Rattle.sip_clients.specs.declared.reply.ReplyCase.TheVariants as reply
use Rattle.sip_clients.specs.declared.send_outcome.OutgoingRequest.{OutgoingRequest}
use Rattle.sip_clients.specs.declared.send_outcome.SendOutcome.{SendOutcome}
use Rattle.sip_clients.specs.declared.send_outcome.SendOutcome.TheVariants.{Sent, Waits, Refused}
use Rattle.sip_clients.proofs.Served.{bad_request, found_passes, good_request, is_bad, served_in}
use Rattle.sip_message.specs.Written.{written}

-- ---- what is said of messages

abbrev pub IsAsk : Message → Type 0
IsAsk message = is_request_message message ≡ true

pub record IsAck (message : Message) : Type 0 where
  pub request : IsAsk message
  pub method : message.cseq.method ≡ codes "ACK"

abbrev pub IsAckText : List ℕ → Type 0
IsAckText bytes = (message : Message) × (bytes ≡ written message) × IsAck message

-- ---- the ACKs that a client request keeps

abbrev pub KeptAck : Option SentAck → Type 0
KeptAck ack = IfSome ack (λ sent. IsAckText sent.bytes)

pub record Asks (client : Client) : Type 0 where
  pub request : IsAsk client.request
  pub acks : AllByRecursion (λ (entry : DialogId × Option SentAck). KeptAck entry.1)
      client.answers

abbrev pub AskAll : Clients → Type 0
AskAll clients = AllByRecursion (λ (entry : Id × Client). Asks entry.1) clients

-- ---- the requests that are made

pub content_start : (message : Message) (content : Content)
    → (with_content_of message content).start ≡ message.start
unfolding with_content_of
content_start message content = refl

content_method : (message : Message) (content : Content)
    → (with_content_of message content).cseq.method ≡ message.cseq.method
unfolding with_content_of
content_method message content = refl

supporting_start : (asked_for : ProvisionalSupport) (message : Message)
    → (supporting asked_for message).start ≡ message.start
supporting_start support.None message = refl
supporting_start support.Supported message = refl
supporting_start support.Required message = refl

bare_start : (event : Event) (call_id method uri from to : List ℕ)
    → (bare_request event call_id method uri from to).start ≡ start.Request uri
unfolding bare_request
bare_start event call_id method uri from to = refl

invite_asks : (event : Event) (invite : InviteCommand) → IsAsk (invite_of event invite)
invite_asks event invite =
    ap is_request_line (content_start (through invite.routes (bare_invite event invite))
    invite.content
    ∙ (supporting_start invite.support _
    ∙ bare_start event invite.call_id (codes "INVITE") invite.request_uri invite.from invite.to))

plain_asks : (event : Event) (plain : PlainCommand) → IsAsk (plain_of event plain)
plain_asks event plain =
    ap is_request_line (content_start (through plain.routes (bare_plain event plain)) plain.content
    ∙ bare_start event plain.call_id plain.method plain.request_uri plain.from plain.to)

-- ---- what is sent in a dialog

abbrev pub Serves : (Message → Type 0) → SendOutcome → Type 0
Serves Q (Sent sending) = Q sending.message
Serves Q Waits = Unit {0}
Serves Q (Refused refusal) = Unit {0}

service_serves : (Q : Message → Type 0) (fault : Option DialogFault) (sending : OutgoingRequest)
    → Q sending.message → Serves Q (outcome_by fault sending)
service_serves Q None sending is = is
service_serves Q (Some fault) sending is = tt

requested_serves : (event : Event) (method : List ℕ) (rack : Option RAck) (content : Content)
    (held : HeldDialog) → Serves IsAsk (requested event method rack content held).1
requested_serves event method rack content held =
    service_serves IsAsk (request_fault held.dialog method)
    (sending_in event method rack content held)
    (ap is_request_line (content_start (bare_request_in held.dialog method _ (branch_of event)
    event.local) content))

acked_serves : (event : Event) (held : HeldDialog) (number : ℕ) (content : Content)
    → Serves IsAck (acked event held number content)
acked_serves event held number content =
    let bare = bare_request_in held.dialog (codes "ACK") number (branch_of event) event.local in
    service_serves IsAck (ack_fault held.dialog) _ record {
      request = ap is_request_line (content_start bare content);
      method = content_method bare content;
    }

-- what is owed is an ACK, or another request
abbrev pub Pays : PendingRequest → Message → Type 0
Pays (Ack invite number) = IsAck
Pays (Prack rseq number) = IsAsk

discharged_serves : (event : Event) (pending : PendingRequest) (offer : Option Content)
    (held : HeldDialog) → Serves (Pays pending) (discharged event pending offer held).1
unfolding discharged
discharged_serves event pending None held = tt
discharged_serves event (Ack invite number) (Some content) held =
    acked_serves event held number content
discharged_serves event (Prack rseq number) (Some content) held =
    requested_serves event (codes "PRACK")
    (Some record { rseq = rseq; cseq = number; method = codes "INVITE" }) content held

owed_serves : (event : Event) (pending : PendingRequest) (offer : Option Content)
    (held : HeldDialog) → Serves (Pays pending) (kept_pending event pending offer held).1
unfolding kept_pending
owed_serves event pending offer held = discharged_serves event pending offer held

paid_serves : (event : Event) (pending : PendingRequest) (content : Content) (held : HeldDialog)
    → Serves (Pays pending) (sent_pending event pending content held).1
unfolding sent_pending
paid_serves event pending content held = discharged_serves event pending (Some content) held

request_serves : (event : Event) (method : List ℕ) (content : Content) (held : HeldDialog)
    → Serves IsAsk (request_in_held event method content held).1
request_serves event method content held =
    let Fits : Outcome → Type 0 = λ done. Serves IsAsk done.1 in
    by_bool (is_bad event method content held)
    (λ bad. subst Fits (sym (bad_request event method content held bad)) tt)
    (λ good. subst Fits (sym (good_request event method content held good))
    (requested_serves event method None content held))

served_serves : (Q : Message → Type 0) (name : DialogId) (serve : HeldDialog → Outcome)
    (otherwise : SendOutcome) → ((held : HeldDialog) → Serves Q (serve held).1) → Serves Q otherwise
    → (dialogs : Dialogs) → Serves Q (served_at name serve otherwise dialogs).1
served_serves Q name serve otherwise serves other dialogs = by_found (dialog_at name dialogs)
  where
    by_found : (found : Option HeldDialog)
        → Serves Q (served_in name serve otherwise dialogs found).1
    by_found None = other
    by_found (Some held) = serves held

paid_at_serves : (name : DialogId) (event : Event) (pending : PendingRequest) (content : Content)
    (dialogs : Dialogs) → Serves (Pays pending) (paid_at name event pending content dialogs).1
paid_at_serves name event pending content dialogs =
    served_serves (Pays pending) name (sent_pending event pending content) Waits
    (paid_serves event pending content) tt dialogs

requested_at_serves : (name : DialogId) (event : Event) (command : DialogRequest)
    (dialogs : Dialogs) → Serves IsAsk (requested_at name event command dialogs).1
unfolding requested_at
requested_at_serves name event command dialogs =
    served_serves IsAsk name (request_in_held event command.method command.content)
    (Refused NoSuchDialog) (request_serves event command.method command.content) tt dialogs

module _ (Given : Message → Type 0) where
  -- ---- what is said of outputs

  -- a transaction is started with a request; an answer is one of which this is said
  abbrev pub CommandSays : Command → Type 0
  CommandSays (order.Start key call_id message to) = IsAsk message
  CommandSays (order.Answer key message) = Given message
  CommandSays (order.Abandon key) = Unit {0}

  abbrev pub OutSays : CallOut → Type 0
  OutSays (out.Notice notice) = Unit {0}
  OutSays (out.Command id command) = CommandSays command
  OutSays (out.Direct to bytes) = IsAckText bytes

  abbrev Say : List CallOut → Type 0
  Say outs = AllByRecursion OutSays outs

  -- ---- the ends of dialogs

  ends_say : (dialogs : List HeldDialog) → Say (map ended_notice dialogs)
  ends_say [] = tt
  ends_say (held ∷ dialogs) = (tt, ends_say dialogs)

  early_say : (invite : Id) (dialogs : Dialogs) → Say (early_ended invite dialogs).1
  early_say invite dialogs = ends_say (filter (is_early_of invite) (values_of dialogs))

  end_says_of : (o : Option HeldDialog)
      → Say (option_map_or (λ held. ended_notice held ∷ []) o [])
  end_says_of None = tt
  end_says_of (Some held) = (tt, tt)

  end_says : (b : Bool) (name : DialogId) (dialogs : Dialogs)
      → Say (cond {A = Dialogs × List CallOut} b (ended_at name dialogs) (dialogs, [])).1
  end_says false name dialogs = tt
  end_says true name dialogs = end_says_of (dialog_at name dialogs)

  own_say : (k : RequestKind) (over : Bool) (dialogs : Dialogs)
      → Say (own_ended k over dialogs).1
  own_say InitialInvite over dialogs = tt
  own_say (ReInvite life) true dialogs = end_says (lives dialogs life) life.name dialogs
  own_say (ReInvite life) false dialogs = tt
  own_say (InDialog life) true dialogs = end_says (lives dialogs life) life.name dialogs
  own_say (InDialog life) false dialogs = tt
  own_say OutOfDialog over dialogs = tt

  ended_say : (client : Client) (over : Bool) (dialogs : Dialogs)
      → Say (ended_with client over dialogs).1
  ended_say client over dialogs =
      let first = early_ended client.id dialogs in
      both OutSays first.1 (own_ended client.kind over first.0).1 (early_say client.id dialogs)
      (own_say client.kind over first.0)

  bye_says : (name : DialogId) (method : List ℕ) (outcome : SendOutcome) (dialogs : Dialogs)
      → Say (bye_ended name method outcome dialogs).1
  bye_says name method (Sent sending) dialogs =
      end_says (bytes_eq method (codes "BYE")) name dialogs
  bye_says name method Waits dialogs = tt
  bye_says name method (Refused refusal) dialogs = tt

  -- ---- what is told and sent

  abbrev ChangeAsks : ClientChange → Type 0
  ChangeAsks Stays = Unit {0}
  ChangeAsks Over = Unit {0}
  ChangeAsks (Starts client) = Asks client

  request_says : (event : Event) (call_id : List ℕ) (name : DialogId) (outcome : SendOutcome)
      → Serves IsAsk outcome → Say (request_said event call_id name outcome).0
      × ChangeAsks (request_said event call_id name outcome).1
  request_says event call_id name (Sent sending) serves =
      (tt, record { request = serves; acks = tt })
  request_says event call_id name Waits serves = (tt, tt)
  request_says event call_id name (Refused refusal) serves = ((tt, tt), tt)

  ack_says : (event : Event) (call_id : List ℕ) (outcome : SendOutcome) → Serves IsAck outcome
      → Say (ack_said event call_id outcome).0 × KeptAck (ack_said event call_id outcome).1
  ack_says event call_id (Sent sending) serves =
      (((sending.message, refl, serves), tt), (sending.message, refl, serves))
  ack_says event call_id Waits serves = (tt, tt)
  ack_says event call_id (Refused refusal) serves = ((tt, tt), tt)

  again_says : (o : Option SentAck) → KeptAck o
      → Say (option_map_or (λ ack. direct ack ∷ []) o [])
  again_says None kept = tt
  again_says (Some ack) kept = (kept, tt)

  kept_found : (o : Option (Option SentAck)) → IfSome o KeptAck
      → KeptAck (option_and_then (λ ack. ack) o)
  kept_found None kept = tt
  kept_found (Some ack) kept = kept

  answer_kept : (name : DialogId) (client : Client) → Asks client
      → KeptAck (ack_of name client.answers)
  answer_kept name client asks =
      kept_found (lookup (is_dialog_id name) client.answers)
      (found_one KeptAck (is_dialog_id name) client.answers asks.acks)

  abbrev Settled : Clients × List CallOut → Type 0
  Settled done = AskAll done.0 × Say done.1

  abbrev pub Taken : ClientTaken → Type 0
  Taken taken = AskAll (taken.0).clients × Say taken.1

  starts_say : (id : Id) (client : Client) → Asks client → OutSays (start_command id client)
  unfolding start_command
  starts_say id client asks = asks.request

  started_says : (event : Event) (client : Client) (clients : Clients) → Asks client
      → AskAll clients → Settled (started event client clients)
  started_says event client clients asks all = (
    each_inserted Asks is_id event.id client asks clients all,
    (starts_say event.id client asks, tt),
  )

  settled_says : (event : Event) (id : Id) (c : ClientChange) (clients : Clients) → ChangeAsks c
      → AskAll clients → Settled (settled event id c clients)
  settled_says event id Stays clients asks all = (all, tt)
  settled_says event id Over clients asks all = (each_but_one Asks (is_id id) clients all, tt)
  settled_says event id (Starts client) clients asks all =
      started_says event client clients asks all

  cancel_asks : (id : Id) (invite : Client) → Asks invite → Asks (cancel_client id invite)
  cancel_asks id invite asks = record { request = asks.request; acks = tt }

  beside_says : (freed : Option Id) (invite : Client) (done : Clients × List CallOut)
      → Asks invite → Settled done
      → Settled (sent_beside (option_map (λ id. cancel_client id invite) freed) done)
  beside_says None invite done asks says = says
  beside_says (Some id) invite done asks says =
      let own = cancel_asks id invite asks in (
        each_inserted Asks is_id id (cancel_client id invite) own done.0 says.0,
        both OutSays done.1 (start_command id (cancel_client id invite) ∷ []) says.1
            (starts_say id (cancel_client id invite) own, tt),
      )

  -- ---- a response

  ack_owed_serves : (client : Client) (held : HeldDialog) (answer : ReceivedResponse)
      → Serves IsAck (ack_owed client held answer).1
  unfolding ack_owed
  ack_owed_serves client held answer =
      owed_serves answer.event (Ack client.id client.request.cseq.number)
      (automatic_body client answer.response) held

  prack_owed_serves : (number : ℕ) (client : Client) (held : HeldDialog) (answer : ReceivedResponse)
      → Serves IsAsk (prack_owed number client held answer).1
  unfolding prack_owed
  prack_owed_serves number client held answer =
      owed_serves answer.event (Prack number client.request.cseq.number)
      (automatic_body client answer.response) (heard_first client.kind number held)

  hears_asks : (k : RequestKind) (number : ℕ) (client : Client) → Asks client
      → Asks (heard_again k number client)
  hears_asks InitialInvite number client asks = asks
  hears_asks (ReInvite life) number client asks =
      record { request = asks.request; acks = asks.acks }
  hears_asks (InDialog life) number client asks =
      record { request = asks.request; acks = asks.acks }
  hears_asks OutOfDialog number client asks = record { request = asks.request; acks = asks.acks }

  record SaysInDialog (done : InOneDialog) : Type 0 where
    pub client : Asks done.0
    pub told : Say done.2
    pub change : ChangeAsks done.3

  record SaysReplied (done : Replied) : Type 0 where
    pub client : Asks done.0
    pub told : Say done.2
    pub change : ChangeAsks done.3

  answered_asks : (name : DialogId) (ack : Option SentAck) (client : Client) → Asks client
      → KeptAck ack
      → AllByRecursion (λ (entry : DialogId × Option SentAck). KeptAck entry.1)
      (insert_entry is_dialog_id client.answers name ack)
  answered_asks name ack client asks kept =
      each_inserted KeptAck is_dialog_id name ack kept client.answers asks.acks

  case_says : (case : ReplyCase) (client : Client) (found : Option HeldDialog)
      (answer : ReceivedResponse) → Asks client
      → SaysInDialog (by_reply_case case client found answer)
  case_says reply.Repeated client found answer asks = record {
    client = asks;
    told = again_says (ack_of answer.name client.answers)
        (answer_kept answer.name client asks);
    change = tt;
  }
  case_says reply.Accepted client found answer asks =
      let outcome = (ack_owed client (accepted client answer found) answer).1 in
      let says = ack_says answer.event answer.call_id outcome
      (ack_owed_serves client (accepted client answer found) answer) in
      record {
        client = record {
          request = asks.request;
          acks = answered_asks answer.name (ack_said answer.event answer.call_id outcome).1
              client asks says.1;
        };
        told = (tt, says.0);
        change = tt;
      }
  case_says reply.Late client found answer asks = record {
    client = record {
      request = asks.request;
      acks = answered_asks answer.name None client asks tt;
    };
    told = (tt, tt);
    change = tt;
  }
  case_says (reply.Reliable number) client found answer asks =
      let held = dialog_for_provisional client answer found in
      let says = request_says answer.event answer.call_id answer.name
      (prack_owed number client held answer).1 (prack_owed_serves number client held answer) in
      record {
        client = hears_asks client.kind number client asks;
        told = (tt, says.0);
        change = says.1;
      }
  case_says reply.Passed client found answer asks =
      record { client = asks; told = tt; change = tt }
  case_says reply.Early client found answer asks =
      record { client = asks; told = (tt, tt); change = tt }
  case_says reply.Told client found answer asks =
      record { client = asks; told = (tt, tt); change = tt }

  reply_says : (client : Client) (dialogs : Dialogs) (answer : ReceivedResponse) → Asks client
      → SaysReplied (reply_taken client dialogs answer)
  reply_says client dialogs answer asks = by_last (is_last client.kind answer.status)
    where
      found : Option HeldDialog
      found = dialog_at answer.name dialogs

      by_last : (last : Bool)
          → SaysReplied (cond {A = Replied} last (request_over client dialogs answer)
          (after_dialog answer.name dialogs (replied_in client found answer)))
      by_last true = record {
        client = asks;
        told = (tt, ended_say client (ends_dialog answer.status) dialogs);
        change = tt;
      }
      by_last false =
          let so = case_says (reply_case client found answer) client found answer asks in
          record { client = so.client; told = so.told; change = so.change }

  response_asks : (final : Bool) (client : Client) → Asks client
      → Asks (after_response final client)
  response_asks final client asks = record { request = asks.request; acks = asks.acks }

  replied_says : (answer : ReceivedResponse) (client : Client) (side : Side) → Asks client
      → AskAll side.clients → Taken (reply_settled answer client side)
  replied_says answer client side asks all =
      let final = is_final answer.status in
      let done = reply_taken (after_response final client) side.dialogs answer in
      let so = reply_says (after_response final client) side.dialogs answer
      (response_asks final client asks) in
      let put = set_value (is_id answer.id) side.clients done.0 in
      let after = settled answer.event answer.id done.3 put in
      let settles = settled_says answer.event answer.id done.3 put so.change
      (each_set Asks (is_id answer.id) side.clients done.0 so.client all) in
      beside_says (freed_by final client.cancel) client (after.0, done.2 ++ after.1) asks
      (settles.0, both OutSays done.2 after.1 so.told settles.1)

  found_says : (event : Event) (id : Id) (call_id : List ℕ) (response : Message)
      (status : Option ℕ) (found : Option Client) (side : Side) → IfSome found Asks
      → AskAll side.clients → Taken (found_taken event id call_id response status found side)
  found_says event id call_id response None found side asks all = (all, tt)
  found_says event id call_id response (Some status) None side asks all = (all, tt)
  found_says event id call_id response (Some status) (Some client) side asks all =
      replied_says (reply_of event id call_id (reply_name client.kind client response) status
      response) client side asks all

  client_asks : (id : Id) (clients : Clients) → AskAll clients → IfSome (client_at id clients) Asks
  client_asks id clients all = found_one Asks (is_id id) clients all

  pub response_says : (event : Event) (id : Id) (call_id : List ℕ) (response : Message)
      (side : Side) → AskAll side.clients → Taken (response_taken event id call_id response side)
  response_says event id call_id response side all =
      found_says event id call_id response (status_of response.start) (client_at id side.clients)
      side (client_asks id side.clients all) all

  -- ---- a request that is lost, and a tick

  lost_of_says : (id : Id) (timed_out : Bool) (found : Option Client) (side : Side)
      → AskAll side.clients → Taken (lost_of id timed_out found side)
  lost_of_says id timed_out None side all = (each_but_one Asks (is_id id) side.clients all, tt)
  lost_of_says id timed_out (Some client) side all = (
    each_but_one Asks (is_id id) side.clients all,
    ended_say client timed_out side.dialogs,
  )

  pub lost_says : (id : Id) (timed_out : Bool) (side : Side) → AskAll side.clients
      → Taken (request_lost id timed_out side)
  lost_says id timed_out side all =
      lost_of_says id timed_out (client_at id side.clients) side all

  over_says : (dialogs : Dialogs) (over : Bool) (client : Client)
      → Say (if over then (early_ended client.id dialogs).1 else [])
  over_says dialogs true client = early_say client.id dialogs
  over_says dialogs false client = tt

  pub clients_tick_says : (side : Side) (now : ℕ) → AskAll side.clients
      → Taken (clients_ticked side now)
  clients_tick_says side now all = (
    each_left Asks _ side.clients all,
    all_of_each OutSays (early_ends_told now side.dialogs)
        (λ client. over_says side.dialogs (is_over now client) client) (values_of side.clients),
  )

  -- ---- commands of the user

  pub invite_says : (event : Event) (invite : InviteCommand) (clients : Clients)
      → AskAll clients → Settled (invite_taken event invite clients)
  invite_says event invite clients all =
      started_says event (client_for event.id InitialInvite (invite_of event invite) invite.address)
      clients (record { request = invite_asks event invite; acks = tt }) all

  plain_by : (b : Bool) (event : Event) (plain : PlainCommand) (clients : Clients)
      → AskAll clients
      → Settled (cond {A = Clients × List CallOut} b
      (clients, refused event.id plain.call_id BadMethod)
      (started event (client_for event.id OutOfDialog (plain_of event plain) plain.address)
      clients))
  plain_by true event plain clients all = (all, (tt, tt))
  plain_by false event plain clients all =
      started_says event (client_for event.id OutOfDialog (plain_of event plain) plain.address)
      clients
      (record { request = plain_asks event plain; acks = tt }) all

  pub plain_says : (event : Event) (plain : PlainCommand) (clients : Clients) → AskAll clients
      → Settled (plain_taken event plain clients)
  plain_says event plain clients all =
      plain_by (is_bad_outside plain.method) event plain clients all

  pub command_says : (event : Event) (command : DialogRequest) (side : Side)
      → AskAll side.clients → Taken (request_by_user event command side)
  command_says event command side all =
      let name = name_in command.local_tag command.remote_tag in
      let done = requested_at name event command side.dialogs in
      let said = request_said event command.call_id name done.1 in
      let says = request_says event command.call_id name done.1
      (requested_at_serves name event command side.dialogs) in
      let after = settled event event.id said.1 side.clients in
      let settles = settled_says event event.id said.1 side.clients says.1 all in
      let bye = bye_ended name command.method done.1 done.0 in (
        settles.0,
        both OutSays (said.0 ++ after.1) bye.1
            (both OutSays said.0 after.1 says.0 settles.1)
            (bye_says name command.method done.1 done.0),
      )

  noted_asks : (pending : PendingRequest) (name : DialogId) (ack : Option SentAck)
      (clients : Clients) → KeptAck ack → AskAll clients
      → AskAll (ack_kept pending name ack clients)
  noted_asks (Ack invite number) name None clients kept all = all
  noted_asks (Ack invite number) name (Some ack) clients kept all =
      each_changed Asks (is_id invite) (acked_with name ack)
      (λ client asks. record {
        request = asks.request;
        acks = answered_asks name (Some ack) client asks kept;
      }) clients all
  noted_asks (Prack rseq number) name ack clients kept all = all

  -- a command sends an ACK or PRACK of its own kind
  abbrev IsFound : PendingKind → Result PendingRequest Refusal → Type 0
  IsFound k (Ok pending) = is_of k pending ≡ true
  IsFound k (Err refusal) = Unit {0}

  debt_found : (k : PendingKind) (name : DialogId) (dialogs : Dialogs)
      → IsFound k (pending_for k name dialogs)
  debt_found k name dialogs = by_dialog (dialog_at name dialogs)
    where
      by_debt : (debts : List PendingRequest) (o : Option PendingRequest) → find (is_of k) debts ≡ o
          → IsFound k (debt_or_refusal k o)
      by_debt debts None is = tt
      by_debt debts (Some pending) is = found_passes (is_of k) debts pending is

      by_dialog : (o : Option HeldDialog)
          → IsFound k (option_map_or (oldest_pending k) o (Err NoSuchDialog))
      by_dialog None = tt
      by_dialog (Some held) =
          by_debt held.pending_requests (find (is_of k) held.pending_requests) refl

  paid_by : (k : PendingKind) (event : Event) (command : DialogBody)
      (send_pending : PendingRequest → Side → ClientTaken) (side : Side)
      (o : Result PendingRequest Refusal) → IsFound k o → AskAll side.clients
      → ((pending : PendingRequest) → is_of k pending ≡ true → Taken (send_pending pending side))
      → Taken (paid_or_refused event command send_pending o side)
  paid_by k event command send_pending side (Err refusal) found all pays = (all, (tt, tt))
  paid_by k event command send_pending side (Ok pending) found all pays = pays pending found

  ack_paid_says : (event : Event) (command : DialogBody) (name : DialogId) (side : Side)
      → AskAll side.clients → (pending : PendingRequest) → is_of kind.Ack pending ≡ true
      → Taken (ack_paid event command name pending side)
  ack_paid_says event command name side all (Ack invite number) is =
      let pending : PendingRequest = Ack invite number in
      let sent_pending = paid_at name event pending command.content side.dialogs in
      let says = ack_says event command.call_id sent_pending.1
      (paid_at_serves name event pending command.content side.dialogs) in (
        noted_asks pending name (ack_said event command.call_id sent_pending.1).1 side.clients says.1 all,
        says.0,
      )
  ack_paid_says event command name side all (Prack rseq number) is = absurd (false≢true is)

  pub ack_command_says : (event : Event) (command : DialogBody) (side : Side)
      → AskAll side.clients → Taken (ack_by_user event command side)
  ack_command_says event command side all =
      let name = name_in command.local_tag command.remote_tag in
      paid_by kind.Ack event command (ack_paid event command name) side
      (pending_for kind.Ack name side.dialogs) (debt_found kind.Ack name side.dialogs) all
      (ack_paid_says event command name side all)

  prack_paid_says : (event : Event) (command : DialogBody) (name : DialogId) (side : Side)
      → AskAll side.clients → (pending : PendingRequest) → is_of kind.Prack pending ≡ true
      → Taken (prack_paid event command name pending side)
  prack_paid_says event command name side all (Ack invite number) is = absurd (false≢true is)
  prack_paid_says event command name side all (Prack rseq number) is =
      let pending : PendingRequest = Prack rseq number in
      let sent_pending = paid_at name event pending command.content side.dialogs in
      let said = request_said event command.call_id name sent_pending.1 in
      let says = request_says event command.call_id name sent_pending.1
      (paid_at_serves name event pending command.content side.dialogs) in
      let settles = settled_says event event.id said.1 side.clients says.1 all in (
        settles.0,
        both OutSays said.0 (settled event event.id said.1 side.clients).1 says.0 settles.1,
      )

  pub prack_command_says : (event : Event) (command : DialogBody) (side : Side)
      → AskAll side.clients → Taken (prack_by_user event command side)
  prack_command_says event command side all =
      let name = name_in command.local_tag command.remote_tag in
      paid_by kind.Prack event command (prack_paid event command name) side
      (pending_for kind.Prack name side.dialogs) (debt_found kind.Prack name side.dialogs) all
      (prack_paid_says event command name side all)

  -- ---- CANCEL

  asked_asks : (id : Id) (state : Cancelling) (clients : Clients) → AskAll clients
      → AskAll (client_changed id (asked state) clients)
  asked_asks id state clients all =
      each_changed Asks (is_id id) (asked state)
      (λ client asks. record { request = asks.request; acks = asks.acks }) clients all

  cancel_by : (as_case : CancelCase) (event : Event) (command : CancelCommand) (invite : Client)
      (clients : Clients) → Asks invite → AskAll clients
      → Settled (cancelled_as as_case event command invite clients)
  cancel_by (ask.Refused refusal) event command invite clients asks all = (all, (tt, tt))
  cancel_by ask.Repeated event command invite clients asks all = (all, tt)
  cancel_by ask.Waits event command invite clients asks all =
      (asked_asks command.id (cancel.Waits event.id) clients all, tt)
  cancel_by ask.Starts event command invite clients asks all =
      beside_says (Some event.id) invite
      (client_changed command.id (asked cancel.Sent) clients, []) asks
      (asked_asks command.id cancel.Sent clients all, tt)

  cancel_found : (found : Option Client) (event : Event) (command : CancelCommand)
      (clients : Clients) → IfSome found Asks → AskAll clients
      → Settled (cancelled_of found event command clients)
  cancel_found None event command clients asks all = (all, (tt, tt))
  cancel_found (Some invite) event command clients asks all =
      cancel_by (cancel_case invite) event command invite clients asks all

  pub cancel_says : (event : Event) (command : CancelCommand) (side : Side)
      → AskAll side.clients → Taken (cancel_by_user event command side)
  cancel_says event command side all =
      cancel_found (client_at command.id side.clients) event command side.clients
      (client_asks command.id side.clients all) all

  -- ---- giving up

  abandoned_found : (found : Option Client) (event : Event) (command : AbandonRequest) (side : Side)
      → AskAll side.clients → Taken (request_abandoned_of found event command side)
  abandoned_found None event command side all = (all, (tt, tt))
  abandoned_found (Some client) event command side all =
      let so = lost_says command.id false side all in (so.0, (tt, so.1))

  pub abandon_request_says : (event : Event) (command : AbandonRequest) (side : Side)
      → AskAll side.clients → Taken (request_abandoned event command side)
  abandon_request_says event command side all =
      abandoned_found (client_at command.id side.clients) event command side all

  abandoned_dialog : (found : Option HeldDialog) (event : Event) (command : AbandonDialog)
      (name : DialogId) (side : Side) → AskAll side.clients
      → Taken (dialog_abandoned_of found event command name side)
  abandoned_dialog None event command name side all = (all, (tt, tt))
  abandoned_dialog (Some held) event command name side all =
      (all, end_says_of (dialog_at name side.dialogs))

  pub abandon_dialog_says : (event : Event) (command : AbandonDialog) (side : Side)
      → AskAll side.clients → Taken (dialog_abandoned event command side)
  abandon_dialog_says event command side all =
      let name = name_in command.local_tag command.remote_tag in
      abandoned_dialog (dialog_at name side.dialogs) event command name side all
