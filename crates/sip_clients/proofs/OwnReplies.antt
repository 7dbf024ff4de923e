-- A response, the loss of a request and a tick on the client side of a call keep to its own
-- Call-ID.
use Rattle.std.proofs.Common.{◌≡◌, ℕ, Bool, true, false, cond, List, [], ◌∷◌, ◌++◌, refl}
use Rattle.std.specs.Prelude.{Option, None, Some, IfSome, not}
use Rattle.std.specs.Map.{set_value, values_of}
use Rattle.std.specs.Option.{option_map, option_map_or}
use Rattle.sip_message.specs.declared.id.Id.{Id}
use Rattle.sip_message.specs.declared.message.Message.{Message}
use Rattle.sip_held_dialogs.specs.declared.pending_request.PendingRequest.TheVariants.{Ack, Prack}
use Rattle.sip_held_dialogs.specs.declared.held_dialog.DialogId.{DialogId}
use Rattle.sip_held_dialogs.specs.declared.held_dialog.HeldDialog.{HeldDialog}
use Rattle.sip_user.specs.declared.item.CallOut.{CallOut}
use Rattle.sip_held_dialogs.specs.Dialogs.{dialog_at, early_ended, is_dialog_id, Dialogs}
use Rattle.sip_held_dialogs.specs.Requests.{is_final}
use Rattle.sip_held_dialogs.specs.Ids.{is_id}
use Rattle.sip_clients.specs.declared.answers.SentAck.{SentAck}
use Rattle.sip_clients.specs.declared.client.RequestKind.{RequestKind}
use Rattle.sip_clients.specs.declared.client.RequestKind.TheVariants.{InitialInvite, ReInvite, InDialog, OutOfDialog}
use Rattle.sip_clients.specs.declared.client.Client.{Client}
use Rattle.sip_clients.specs.declared.event.Event.{Event}
use Rattle.sip_clients.specs.declared.outputs.ClientChange.{ClientChange}
use Rattle.sip_clients.specs.declared.outputs.ClientChange.TheVariants.{Stays, Over, Starts}
use Rattle.sip_clients.specs.declared.reply.ReceivedResponse.{ReceivedResponse}
use Rattle.sip_clients.specs.declared.reply.ReplyCase.{ReplyCase}
use Rattle.sip_clients.specs.declared.reply.ReplyCase.TheVariants as reply
use Rattle.sip_clients.specs.declared.send_outcome.SendOutcome.{SendOutcome}
use Rattle.sip_clients.specs.declared.send_outcome.SendOutcome.TheVariants.{Sent, Waits, Refused}
use Rattle.sip_clients.specs.Answers.{ack_of}
use Rattle.sip_clients.specs.Cancel.{cancel_client, freed_by, after_response, sent_beside}
use Rattle.sip_clients.specs.Client.{Clients, Side, ClientTaken, client_at}
use Rattle.sip_clients.specs.Clients.{found_taken, request_lost, lost_of, reply_name, reply_of, reply_settled, response_taken, settled, started, status_of}
use Rattle.sip_clients.specs.Dialogs.{accepted, dialog_for_provisional}
use Rattle.sip_clients.specs.Outputs.{ack_said, direct, request_said, start_command}
use Rattle.sip_clients.specs.OwnCall.{AreClientsOf, AreDialogsOf, AreNoticesOf, IsDialogOf, IsNoticeOf, IsRequestOf, IsSideOf, KeepsTo}
use Rattle.sip_clients.specs.Replied.{InOneDialog, Replied, ack_owed, after_dialog, by_reply_case, ends_dialog, request_over, heard_again, heard_first, automatic_body, prack_owed, replied_in, reply_taken, dialogs_with}
use Rattle.sip_clients.specs.ReceivedResponse.{is_last, reply_case}
use Rattle.sip_clients.specs.Tick.{ends_early_at, is_over, early_ends_told, clients_ticked}
use Rattle.sip_held_dialogs.proofs.Each.{all_of_each, both, each_but_one, each_inserted, each_left, each_set, found_one}
use Rattle.sip_held_dialogs.proofs.OwnDialogs.{dialog_own, early_own}
use Rattle.sip_clients.proofs.OwnDialogs.{IsOutcomeOf, IsServiceOf, accepted_own, ended_with_own, heard_own, opened_own, owed_own}

module _ (call_id : List ℕ) where
  -- ---- what a step makes

  -- a request that is sent
  abbrev IsChangeOf : ClientChange → Type 0
  IsChangeOf Stays = Unit {0}
  IsChangeOf Over = Unit {0}
  IsChangeOf (Starts client) = IsRequestOf call_id client

  -- the requests, and what is told
  abbrev pub AreSettledOf : Clients × List CallOut → Type 0
  AreSettledOf done = AreClientsOf call_id done.0 × AreNoticesOf call_id done.1

  abbrev IsTakenOf : ClientTaken → Type 0
  IsTakenOf taken = IsSideOf call_id taken.0 × AreNoticesOf call_id taken.1

  hears_own : (kind : RequestKind) (rseq : ℕ) (client : Client) → IsRequestOf call_id client
      → IsRequestOf call_id (heard_again kind rseq client)
  hears_own InitialInvite rseq client its = its
  hears_own (ReInvite life) rseq client its = its
  hears_own (InDialog life) rseq client its = its
  hears_own OutOfDialog rseq client its = its

  -- ---- what is told beside it

  pub request_said_own : (event : Event) (of : List ℕ) → of ≡ call_id → (name : DialogId)
      (outcome : SendOutcome) → IsServiceOf call_id outcome
      → AreNoticesOf call_id (request_said event of name outcome).0
      × IsChangeOf (request_said event of name outcome).1
  request_said_own event of is name (Sent sending) own = (tt, own)
  request_said_own event of is name Waits own = (tt, tt)
  request_said_own event of is name (Refused refusal) own = ((is, tt), tt)

  pub ack_said_own : (event : Event) (of : List ℕ) → of ≡ call_id → (outcome : SendOutcome)
      → AreNoticesOf call_id (ack_said event of outcome).0
  ack_said_own event of is (Sent sending) = (tt, tt)
  ack_said_own event of is Waits = tt
  ack_said_own event of is (Refused refusal) = (is, tt)

  again_own : (ack : Option SentAck)
      → AreNoticesOf call_id (option_map_or (λ ack. direct ack ∷ []) ack [])
  again_own None = tt
  again_own (Some ack) = (tt, tt)

  pub started_own : (event : Event) (client : Client) (clients : Clients)
      → IsRequestOf call_id client → AreClientsOf call_id clients
      → AreSettledOf (started event client clients)
  unfolding start_command
  started_own event client clients its own =
      (each_inserted (IsRequestOf call_id) is_id event.id client its clients own, (tt, tt))

  pub settled_own : (event : Event) (id : Id) (change : ClientChange) (clients : Clients)
      → IsChangeOf change
      → AreClientsOf call_id clients → AreSettledOf (settled event id change clients)
  settled_own event id Stays clients its own = (own, tt)
  settled_own event id Over clients its own =
      (each_but_one (IsRequestOf call_id) (is_id id) clients own, tt)
  settled_own event id (Starts client) clients its own =
      started_own event client clients its own

  -- a CANCEL that may be sent after the rest
  pub beside_own : (freed : Option Id) (invite : Client) → IsRequestOf call_id invite
      → (done : Clients × List CallOut) → AreSettledOf done
      → AreSettledOf (sent_beside (option_map (λ id. cancel_client id invite) freed) done)
  unfolding start_command
  beside_own None invite its done own = own
  beside_own (Some id) invite its done own = (
    each_inserted (IsRequestOf call_id) is_id id (cancel_client id invite) its done.0 own.0,
    both (IsNoticeOf call_id) done.1 (start_command id (cancel_client id invite) ∷ []) own.1
        (tt, tt),
  )

  -- ---- a response

  -- the request, the dialog, what is told, and the request that is sent
  record IsInDialogOf (done : InOneDialog) : Type 0 where
    pub client : IsRequestOf call_id done.0
    pub dialog : IfSome done.1 (IsDialogOf call_id)
    pub told : AreNoticesOf call_id done.2
    pub change : IsChangeOf done.3

  -- the same with all dialogs
  record IsRepliedOf (done : Replied) : Type 0 where
    pub client : IsRequestOf call_id done.0
    pub dialogs : AreDialogsOf call_id done.1
    pub told : AreNoticesOf call_id done.2
    pub change : IsChangeOf done.3

  ack_owed_own : (client : Client) (held : HeldDialog) (answer : ReceivedResponse)
      → IsDialogOf call_id held → IsOutcomeOf call_id (ack_owed client held answer)
  unfolding ack_owed
  ack_owed_own client held answer own =
      owed_own call_id answer.event (Ack client.id client.request.cseq.number)
      (automatic_body client answer.response) held own

  prack_owed_own : (rseq : ℕ) (client : Client) (held : HeldDialog) (answer : ReceivedResponse)
      → IsDialogOf call_id held → IsOutcomeOf call_id (prack_owed rseq client held answer)
  unfolding prack_owed
  prack_owed_own rseq client held answer own =
      owed_own call_id answer.event (Prack rseq client.request.cseq.number)
      (automatic_body client answer.response) (heard_first client.kind rseq held)
      (heard_own call_id client.kind rseq held own)

  case_own : (case : ReplyCase) (client : Client) (found : Option HeldDialog)
      (answer : ReceivedResponse)
      → answer.call_id ≡ call_id → IsRequestOf call_id client
      → IfSome found (IsDialogOf call_id) → IsInDialogOf (by_reply_case case client found answer)
  case_own reply.Repeated client found answer is its own = record {
    client = its;
    dialog = tt;
    told = again_own (ack_of answer.name client.answers);
    change = tt;
  }
  case_own reply.Accepted client found answer is its own =
      let held = accepted client answer found in
      let holds = accepted_own call_id client answer found its own in
      let pending_requests = ack_owed_own client held answer holds in
      record {
        client = its;
        dialog = pending_requests.0;
        told = (is, ack_said_own answer.event answer.call_id is (ack_owed client held answer).1);
        change = tt;
      }
  case_own reply.Late client found answer is its own =
      record { client = its; dialog = tt; told = (is, tt); change = tt }
  case_own (reply.Reliable rseq) client found answer is its own =
      let held = dialog_for_provisional client answer found in
      let holds = opened_own call_id client answer found its own in
      let pending_requests = prack_owed_own rseq client held answer holds in
      let said = request_said_own answer.event answer.call_id is answer.name
      (prack_owed rseq client held answer).1 pending_requests.1 in
      record {
        client = hears_own client.kind rseq client its;
        dialog = pending_requests.0;
        told = (is, said.0);
        change = said.1;
      }
  case_own reply.Passed client found answer is its own =
      record { client = its; dialog = tt; told = tt; change = tt }
  case_own reply.Early client found answer is its own = record {
    client = its;
    dialog = opened_own call_id client answer found its own;
    told = (is, tt);
    change = tt;
  }
  case_own reply.Told client found answer is its own =
      record { client = its; dialog = tt; told = (is, tt); change = tt }

  with_dialog_own : (name : DialogId) (o : Option HeldDialog) (dialogs : Dialogs)
      → IfSome o (IsDialogOf call_id) → AreDialogsOf call_id dialogs
      → AreDialogsOf call_id (dialogs_with name o dialogs)
  with_dialog_own name None dialogs its own = own
  with_dialog_own name (Some held) dialogs its own =
      each_inserted (IsDialogOf call_id) is_dialog_id name held its dialogs own

  reply_own : (client : Client) (dialogs : Dialogs) (answer : ReceivedResponse)
      → answer.call_id ≡ call_id → IsRequestOf call_id client → AreDialogsOf call_id dialogs
      → IsRepliedOf (reply_taken client dialogs answer)
  reply_own client dialogs answer is its own = by_last (is_last client.kind answer.status)
    where
      found : Option HeldDialog
      found = dialog_at answer.name dialogs

      by_last : (last : Bool)
          → IsRepliedOf (cond {A = Replied} last (request_over client dialogs answer)
          (after_dialog answer.name dialogs (replied_in client found answer)))
      by_last true =
          let ended = ended_with_own call_id client (ends_dialog answer.status) dialogs own in
          record { client = its; dialogs = ended.0; told = (is, ended.1); change = tt }
      by_last false =
          let so = case_own (reply_case client found answer) client found answer is its
          (dialog_own call_id answer.name dialogs own) in
          record {
            client = so.client;
            dialogs = with_dialog_own answer.name (replied_in client found answer).1 dialogs
                so.dialog own;
            told = so.told;
            change = so.change;
          }

  replied_own : (answer : ReceivedResponse) (client : Client) (side : Side) → answer.call_id
      ≡ call_id
      → IsRequestOf call_id client → IsSideOf call_id side
      → IsTakenOf (reply_settled answer client side)
  replied_own answer client side is its own =
      let final = is_final answer.status in
      let done = reply_taken (after_response final client) side.dialogs answer in
      let so = reply_own (after_response final client) side.dialogs answer is its own.dialogs in
      let put = set_value (is_id answer.id) side.clients done.0 in
      let after = settled answer.event answer.id done.3 put in
      let settles = settled_own answer.event answer.id done.3 put so.change
      (each_set (IsRequestOf call_id) (is_id answer.id) side.clients done.0 so.client
      own.clients) in
      let last = beside_own (freed_by final client.cancel) client its
      (after.0, done.2 ++ after.1)
      (settles.0, both (IsNoticeOf call_id) done.2 after.1 so.told settles.1) in
      (record { dialogs = so.dialogs; clients = last.0 }, last.1)

  found_own : (event : Event) (id : Id) (response : Message) (status : Option ℕ)
      (found : Option Client) (side : Side) → IfSome found (IsRequestOf call_id)
      → IsSideOf call_id side
      → IsTakenOf (found_taken event id call_id response status found side)
  found_own event id response None found side its own = (own, tt)
  found_own event id response (Some status) None side its own = (own, tt)
  found_own event id response (Some status) (Some client) side its own =
      replied_own (reply_of event id call_id (reply_name client.kind client response) status
      response) client side refl its own

  pub client_own : (id : Id) (clients : Clients) → AreClientsOf call_id clients
      → IfSome (client_at id clients) (IsRequestOf call_id)
  client_own id clients own = found_one (IsRequestOf call_id) (is_id id) clients own

  -- ---- a request that is lost, and a tick

  lost_one_own : (id : Id) (timed_out : Bool) (found : Option Client) (side : Side)
      → IsSideOf call_id side → IsTakenOf (lost_of id timed_out found side)
  lost_one_own id timed_out None side own =
      let left = each_but_one (IsRequestOf call_id) (is_id id) side.clients own.clients in
      (record { dialogs = own.dialogs; clients = left }, tt)
  lost_one_own id timed_out (Some client) side own =
      let ended = ended_with_own call_id client timed_out side.dialogs own.dialogs in
      let left = each_but_one (IsRequestOf call_id) (is_id id) side.clients own.clients in
      (record { dialogs = ended.0; clients = left }, ended.1)

  over_own : (now : ℕ) (dialogs : Dialogs) → AreDialogsOf call_id dialogs → (client : Client)
      → AreNoticesOf call_id (early_ends_told now dialogs client)
  over_own now dialogs own client =
      elim (is_over now client) as (λ b. AreNoticesOf call_id
      (cond b (early_ended client.id dialogs).1 [])) [
        | true ↦ (early_own call_id client.id dialogs own).1
        | false ↦ tt
      ]

-- ---- the steps

pub response_own : (event : Event) (id : Id) (call_id : List ℕ) (response : Message)
    → KeepsTo call_id (response_taken event id call_id response)
response_own event id call_id response side own =
    found_own call_id event id response (status_of response.start) (client_at id side.clients)
    side (client_own call_id id side.clients own.clients) own

pub lost_own : (call_id : List ℕ) (id : Id) (timed_out : Bool)
    → KeepsTo call_id (request_lost id timed_out)
lost_own call_id id timed_out side own =
    lost_one_own call_id id timed_out (client_at id side.clients) side own

pub tick_own : (call_id : List ℕ) (now : ℕ) → KeepsTo call_id (λ side. clients_ticked side now)
tick_own call_id now side own =
    let left = each_left (IsDialogOf call_id)
    (λ entry. not (ends_early_at now side.clients entry.1)) side.dialogs own.dialogs in
    let kept = each_left (IsRequestOf call_id) (λ entry. not (is_over now entry.1))
    side.clients own.clients in (
      record { dialogs = left; clients = kept },
      all_of_each (IsNoticeOf call_id) (early_ends_told now side.dialogs)
          (over_own call_id now side.dialogs own.dialogs) (values_of side.clients),
    )
