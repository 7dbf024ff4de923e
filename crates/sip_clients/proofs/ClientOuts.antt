-- The outputs of the client side of a call: notices of ends of dialogs and of refused commands,
-- ACKs, requests, and notices of responses that come up.
use Rattle.std.proofs.Common.{◌≡◌, ℕ, Bool, true, false, cond, List, [], ◌∷◌, ◌++◌, map, refl}
use Rattle.std.specs.Prelude.{Option, None, Some, codes, filter, if◌then◌else◌}
use Rattle.std.specs.List.{AllByRecursion}
use Rattle.std.specs.Map.{set_value, values_of}
use Rattle.std.specs.Option.{option_map, option_map_or}
use Rattle.std.specs.Str.{bytes_eq}
use Rattle.sip_message.specs.declared.id.Id.{Id}
use Rattle.sip_message.specs.declared.message.Message.{Message}
use Rattle.sip_user.specs.declared.command.AbandonDialog.{AbandonDialog}
use Rattle.sip_user.specs.declared.command.AbandonRequest.{AbandonRequest}
use Rattle.sip_user.specs.declared.command.Cancel.{Cancel as CancelCommand}
use Rattle.sip_user.specs.declared.command.DialogBody.{DialogBody}
use Rattle.sip_user.specs.declared.command.DialogRequest.{DialogRequest}
use Rattle.sip_user.specs.declared.command.Invite.{Invite as InviteCommand}
use Rattle.sip_user.specs.declared.command.Plain.{Plain as PlainCommand}
use Rattle.sip_held_dialogs.specs.declared.pending_request.PendingRequest.{PendingRequest}
use Rattle.sip_held_dialogs.specs.declared.held_dialog.DialogId.{DialogId}
use Rattle.sip_held_dialogs.specs.declared.held_dialog.HeldDialog.{HeldDialog}
use Rattle.sip_user.specs.declared.item.CallOut.{CallOut}
use Rattle.sip_user.specs.declared.item.CallOut.TheVariants as out
use Rattle.sip_user.specs.declared.notice.Notice.TheVariants as notice
use Rattle.sip_user.specs.declared.refusal.Refusal.{Refusal}
use Rattle.sip_user.specs.declared.refusal.Refusal.TheVariants.{BadMethod, NoSuchDialog, NoSuchRequest}
use Rattle.sip_held_dialogs.specs.Dialogs.{Dialogs, dialog_at, early_ended, ended_at, ended_notice, is_early_of, lives}
use Rattle.sip_held_dialogs.specs.Ids.{is_id}
use Rattle.sip_user.specs.Notices.{refused}
use Rattle.sip_held_dialogs.specs.Requests.{is_final}
use Rattle.sip_held_dialogs.proofs.Each.{all_of_each, both}
use Rattle.sip_clients.specs.declared.answers.SentAck.{SentAck}
use Rattle.sip_clients.specs.declared.cancel_command.CancelCase.{CancelCase}
use Rattle.sip_clients.specs.declared.cancel_command.CancelCase.TheVariants as ask
use Rattle.sip_clients.specs.declared.client.Cancelling.TheVariants as cancel
use Rattle.sip_clients.specs.declared.client.Client.{Client}
use Rattle.sip_clients.specs.declared.client.RequestKind.{RequestKind}
use Rattle.sip_clients.specs.declared.client.RequestKind.TheVariants as asks
use Rattle.sip_clients.specs.declared.pending.PendingKind.TheVariants as pending
use Rattle.sip_clients.specs.declared.event.Event.{Event}
use Rattle.sip_clients.specs.declared.outputs.ClientChange.{ClientChange}
use Rattle.sip_clients.specs.declared.outputs.ClientChange.TheVariants as change
use Rattle.sip_clients.specs.declared.reply.ReceivedResponse.{ReceivedResponse}
use Rattle.sip_clients.specs.declared.reply.ReplyCase.{ReplyCase}
use Rattle.sip_clients.specs.declared.reply.ReplyCase.TheVariants as reply
use Rattle.sip_clients.specs.declared.send_outcome.SendOutcome.{SendOutcome}
use Rattle.sip_clients.specs.declared.send_outcome.SendOutcome.TheVariants.{Sent, Waits, Refused}
use Rattle.sip_clients.specs.Answers.{ack_of}
use Rattle.sip_clients.specs.Abandon.{dialog_abandoned, dialog_abandoned_of, end_command, request_abandoned, request_abandoned_of}
use Rattle.sip_clients.specs.Cancel.{after_response, asked, cancel_by_user, cancel_case, cancel_client, cancelled_as, cancelled_of, freed_by, sent_beside}
use Rattle.sip_clients.specs.Client.{Clients, Side, client_at, client_changed, client_for}
use Rattle.sip_clients.specs.Clients.{ack_by_user, ack_paid, found_taken, invite_taken, lost_of, plain_taken, prack_by_user, prack_paid, reply_name, reply_of, reply_settled, request_by_user, request_lost, response_taken, settled, started, status_of}
use Rattle.sip_clients.specs.Commands.{bye_ended, pending_for, is_bad_outside, name_in, requested_at}
use Rattle.sip_clients.specs.Dialogs.{accepted, dialog_for_provisional, ended_with, own_ended, paid_at}
use Rattle.sip_clients.specs.Outputs.{ack_said, direct, request_said, response_notice, sent_ack, start_command}
use Rattle.sip_clients.specs.Outside.{invite_of, plain_of}
use Rattle.sip_clients.specs.Replied.{Replied, ack_owed, after_dialog, by_reply_case, ends_dialog, prack_owed, replied_in, reply_taken, request_over}
use Rattle.sip_clients.specs.ReceivedResponse.{is_last, reply_case}
use Rattle.sip_clients.specs.Tick.{clients_ticked, early_ends_told, is_over}
use Rattle.sip_clients.proofs.Served.{paid_either}

module _ (P : CallOut → Type 0) where
  -- P is true of notices of ends and of refused commands, of ACKs, and of requests that go out
  pub record Allows : Type 0 where
    pub ended : (held : HeldDialog) → P (ended_notice held)
    pub refusal : (call_id : List ℕ) (place : ℕ) (why : Refusal)
        → P (out.Notice (notice.Refused call_id place why))
    pub sent : (ack : SentAck) → P (direct ack)
    pub started : (id : Id) (client : Client) → P (start_command id client)

module _ (P : CallOut → Type 0) (allows : Allows P) where
  abbrev All : List CallOut → Type 0
  All outs = AllByRecursion P outs

  -- ---- the ends of dialogs

  pub ends : (dialogs : List HeldDialog) → All (map ended_notice dialogs)
  ends [] = tt
  ends (held ∷ dialogs) = (allows.ended held, ends dialogs)

  pub early : (invite : Id) (dialogs : Dialogs) → All (early_ended invite dialogs).1
  early invite dialogs = ends (filter (is_early_of invite) (values_of dialogs))

  by_dialog : (o : Option HeldDialog) → All (option_map_or (λ held. ended_notice held ∷ []) o [])
  by_dialog None = tt
  by_dialog (Some held) = (allows.ended held, tt)

  pub end_told : (name : DialogId) (dialogs : Dialogs) → All (ended_at name dialogs).1
  end_told name dialogs = by_dialog (dialog_at name dialogs)

  at_or : (b : Bool) (name : DialogId) (dialogs : Dialogs)
      → All (cond {A = Dialogs × List CallOut} b (ended_at name dialogs) (dialogs, [])).1
  at_or false name dialogs = tt
  at_or true name dialogs = end_told name dialogs

  -- ---- the client side

  request_told : (event : Event) (call_id : List ℕ) (name : DialogId) (outcome : SendOutcome)
      → All (request_said event call_id name outcome).0
  request_told event call_id name (Sent sending) = tt
  request_told event call_id name Waits = tt
  request_told event call_id name (Refused refusal) =
      (allows.refusal call_id event.id.place refusal, tt)

  ack_told : (event : Event) (call_id : List ℕ) (outcome : SendOutcome)
      → All (ack_said event call_id outcome).0
  ack_told event call_id (Sent sending) = (allows.sent (sent_ack sending), tt)
  ack_told event call_id Waits = tt
  ack_told event call_id (Refused refusal) =
      (allows.refusal call_id event.id.place refusal, tt)

  bye_told : (name : DialogId) (method : List ℕ) (outcome : SendOutcome) (dialogs : Dialogs)
      → All (bye_ended name method outcome dialogs).1
  bye_told name method (Sent sending) dialogs =
      at_or (bytes_eq method (codes "BYE")) name dialogs
  bye_told name method Waits dialogs = tt
  bye_told name method (Refused refusal) dialogs = tt

  own_told : (k : RequestKind) (over : Bool) (dialogs : Dialogs)
      → All (own_ended k over dialogs).1
  own_told asks.InitialInvite over dialogs = tt
  own_told (asks.ReInvite life) true dialogs = at_or (lives dialogs life) life.name dialogs
  own_told (asks.ReInvite life) false dialogs = tt
  own_told (asks.InDialog life) true dialogs = at_or (lives dialogs life) life.name dialogs
  own_told (asks.InDialog life) false dialogs = tt
  own_told asks.OutOfDialog over dialogs = tt

  ended_told : (client : Client) (over : Bool) (dialogs : Dialogs)
      → All (ended_with client over dialogs).1
  ended_told client over dialogs =
      let first = early_ended client.id dialogs in
      both P first.1 (own_ended client.kind over first.0).1 (early client.id dialogs)
      (own_told client.kind over first.0)

  again_told : (o : Option SentAck) → All (option_map_or (λ ack. direct ack ∷ []) o [])
  again_told None = tt
  again_told (Some ack) = (allows.sent ack, tt)

  case_told : (case : ReplyCase) (client : Client) (found : Option HeldDialog)
      (answer : ReceivedResponse)
      → P (response_notice answer) → All (by_reply_case case client found answer).2
  unfolding ack_owed prack_owed
  case_told reply.Repeated client found answer tells =
      again_told (ack_of answer.name client.answers)
  case_told reply.Accepted client found answer tells = (
    tells,
    ack_told answer.event answer.call_id
        (ack_owed client (accepted client answer found) answer).1,
  )
  case_told reply.Late client found answer tells = (tells, tt)
  case_told (reply.Reliable number) client found answer tells = (
    tells,
    request_told answer.event answer.call_id answer.name
        (prack_owed number client (dialog_for_provisional client answer found) answer).1,
  )
  case_told reply.Passed client found answer tells = tt
  case_told reply.Early client found answer tells = (tells, tt)
  case_told reply.Told client found answer tells = (tells, tt)

  last_told : (last : Bool) (client : Client) (dialogs : Dialogs) (answer : ReceivedResponse)
      → P (response_notice answer)
      → All (cond {A = Replied} last (request_over client dialogs answer)
      (after_dialog answer.name dialogs
      (replied_in client (dialog_at answer.name dialogs) answer))).2
  last_told true client dialogs answer tells =
      (tells, ended_told client (ends_dialog answer.status) dialogs)
  last_told false client dialogs answer tells =
      let found = dialog_at answer.name dialogs in
      case_told (reply_case client found answer) client found answer tells

  start_told : (event : Event) (client : Client) (clients : Clients)
      → All (started event client clients).1
  start_told event client clients = (allows.started event.id client, tt)

  settled_told : (event : Event) (id : Id) (c : ClientChange) (clients : Clients)
      → All (settled event id c clients).1
  settled_told event id change.Stays clients = tt
  settled_told event id change.Over clients = tt
  settled_told event id (change.Starts client) clients = start_told event client clients

  beside_told : (freed : Option Id) (invite : Client) (done : Clients × List CallOut)
      → All done.1
      → All (sent_beside (option_map (λ id. cancel_client id invite) freed) done).1
  beside_told None invite done told = told
  beside_told (Some id) invite done told =
      both P done.1 (start_command id (cancel_client id invite) ∷ []) told
      (allows.started id (cancel_client id invite), tt)

  replied_told : (answer : ReceivedResponse) (client : Client) (side : Side)
      → P (response_notice answer)
      → All (reply_settled answer client side).1
  replied_told answer client side tells =
      let final = is_final answer.status in
      let after = after_response final client in
      let done = reply_taken after side.dialogs answer in
      let put = set_value (is_id answer.id) side.clients done.0 in
      let rest = settled answer.event answer.id done.3 put in
      beside_told (freed_by final client.cancel) client (rest.0, done.2 ++ rest.1)
      (both P done.2 rest.1
      (last_told (is_last after.kind answer.status) after side.dialogs answer tells)
      (settled_told answer.event answer.id done.3 put))

  -- P is true of a notice of the response
  abbrev pub ResponseAllowed : Event → Id → List ℕ → Message → Type 0
  ResponseAllowed event id call_id response = (name : DialogId) (status : ℕ)
      → status_of response.start ≡ Some status
      → P (response_notice (reply_of event id call_id name status response))

  found_told : (event : Event) (id : Id) (call_id : List ℕ) (response : Message)
      (status : Option ℕ) (found : Option Client) (side : Side)
      → status_of response.start ≡ status → ResponseAllowed event id call_id response
      → All (found_taken event id call_id response status found side).1
  found_told event id call_id response None found side is tells = tt
  found_told event id call_id response (Some status) None side is tells = tt
  found_told event id call_id response (Some status) (Some client) side is tells =
      replied_told (reply_of event id call_id (reply_name client.kind client response) status
      response) client side
      (tells (reply_name client.kind client response) status is)

  pub response_told : (event : Event) (id : Id) (call_id : List ℕ) (response : Message)
      (side : Side)
      → ResponseAllowed event id call_id response
      → All (response_taken event id call_id response side).1
  response_told event id call_id response side tells =
      found_told event id call_id response (status_of response.start) (client_at id side.clients)
      side refl tells

  lost_of_told : (id : Id) (timed_out : Bool) (o : Option Client) (side : Side)
      → All (lost_of id timed_out o side).1
  lost_of_told id timed_out None side = tt
  lost_of_told id timed_out (Some client) side = ended_told client timed_out side.dialogs

  pub lost_told : (id : Id) (timed_out : Bool) (side : Side)
      → All (request_lost id timed_out side).1
  lost_told id timed_out side = lost_of_told id timed_out (client_at id side.clients) side

  over_told : (dialogs : Dialogs) (over : Bool) (client : Client)
      → All (if over then (early_ended client.id dialogs).1 else [])
  over_told dialogs true client = early client.id dialogs
  over_told dialogs false client = tt

  pub clients_tick : (side : Side) (now : ℕ) → All (clients_ticked side now).1
  clients_tick side now =
      all_of_each P (early_ends_told now side.dialogs)
      (λ client. over_told side.dialogs (is_over now client) client) (values_of side.clients)

  -- ---- commands of the user

  pub invite_told : (event : Event) (invite : InviteCommand) (clients : Clients)
      → All (invite_taken event invite clients).1
  invite_told event invite clients =
      start_told event (client_for event.id asks.InitialInvite (invite_of event invite)
      invite.address)
      clients

  plain_by : (b : Bool) (event : Event) (plain : PlainCommand) (clients : Clients)
      → All (cond {A = Clients × List CallOut} b
      (clients, refused event.id plain.call_id BadMethod)
      (started event (client_for event.id asks.OutOfDialog (plain_of event plain) plain.address)
      clients)).1
  plain_by true event plain clients =
      (allows.refusal plain.call_id event.id.place BadMethod, tt)
  plain_by false event plain clients =
      start_told event (client_for event.id asks.OutOfDialog (plain_of event plain) plain.address)
      clients

  pub plain_told : (event : Event) (plain : PlainCommand) (clients : Clients)
      → All (plain_taken event plain clients).1
  plain_told event plain clients = plain_by (is_bad_outside plain.method) event plain clients

  pub command_told : (event : Event) (command : DialogRequest) (side : Side)
      → All (request_by_user event command side).1
  command_told event command side =
      let name = name_in command.local_tag command.remote_tag in
      let done = requested_at name event command side.dialogs in
      let said = request_said event command.call_id name done.1 in
      let after = settled event event.id said.1 side.clients in
      let bye = bye_ended name command.method done.1 done.0 in
      both P (said.0 ++ after.1) bye.1
      (both P said.0 after.1 (request_told event command.call_id name done.1)
      (settled_told event event.id said.1 side.clients))
      (bye_told name command.method done.1 done.0)

  pub ack_command_told : (event : Event) (command : DialogBody) (side : Side)
      → All (ack_by_user event command side).1
  ack_command_told event command side =
      let name = name_in command.local_tag command.remote_tag in
      paid_either (λ taken. All taken.1) event command (ack_paid event command name) side
      (pending_for pending.Ack name side.dialogs) (λ refusal.
      (allows.refusal command.call_id event.id.place refusal, tt))
      (λ pending. ack_told event command.call_id
      (paid_at name event pending command.content side.dialogs).1)

  prack_paid_told : (event : Event) (command : DialogBody) (name : DialogId)
      (pending_requests : PendingRequest)
      (side : Side) → All (prack_paid event command name pending_requests side).1
  prack_paid_told event command name pending_requests side =
      let sent_pending = paid_at name event pending_requests command.content side.dialogs in
      let said = request_said event command.call_id name sent_pending.1 in
      both P said.0 (settled event event.id said.1 side.clients).1
      (request_told event command.call_id name sent_pending.1)
      (settled_told event event.id said.1 side.clients)

  pub prack_command_told : (event : Event) (command : DialogBody) (side : Side)
      → All (prack_by_user event command side).1
  prack_command_told event command side =
      let name = name_in command.local_tag command.remote_tag in
      paid_either (λ taken. All taken.1) event command (prack_paid event command name) side
      (pending_for pending.Prack name side.dialogs) (λ refusal.
      (allows.refusal command.call_id event.id.place refusal, tt))
      (λ pending_requests. prack_paid_told event command name pending_requests side)

  cancel_by : (as_case : CancelCase) (event : Event) (command : CancelCommand) (invite : Client)
      (clients : Clients) → All (cancelled_as as_case event command invite clients).1
  cancel_by (ask.Refused refusal) event command invite clients =
      (allows.refusal command.call_id event.id.place refusal, tt)
  cancel_by ask.Repeated event command invite clients = tt
  cancel_by ask.Waits event command invite clients = tt
  cancel_by ask.Starts event command invite clients =
      beside_told (Some event.id) invite
      (client_changed command.id (asked cancel.Sent) clients, []) tt

  cancel_found : (found : Option Client) (event : Event) (command : CancelCommand)
      (clients : Clients) → All (cancelled_of found event command clients).1
  cancel_found None event command clients =
      (allows.refusal command.call_id event.id.place NoSuchRequest, tt)
  cancel_found (Some invite) event command clients =
      cancel_by (cancel_case invite) event command invite clients

  pub cancel_told : (event : Event) (command : CancelCommand) (side : Side)
      → All (cancel_by_user event command side).1
  cancel_told event command side =
      cancel_found (client_at command.id side.clients) event command side.clients

  -- ---- giving up, if P is true of the end of a transaction

  abandoned_found : (found : Option Client) (event : Event) (command : AbandonRequest) (side : Side)
      → ((client : Client) → P (end_command command.id client))
      → All (request_abandoned_of found event command side).1
  abandoned_found None event command side ends =
      (allows.refusal command.call_id event.id.place NoSuchRequest, tt)
  abandoned_found (Some client) event command side ends =
      (ends client, lost_told command.id false side)

  pub abandon_request_told : (event : Event) (command : AbandonRequest) (side : Side)
      → ((client : Client) → P (end_command command.id client))
      → All (request_abandoned event command side).1
  abandon_request_told event command side ends =
      abandoned_found (client_at command.id side.clients) event command side ends

  abandoned_dialog : (found : Option HeldDialog) (event : Event) (command : AbandonDialog)
      (name : DialogId) (side : Side) → All (dialog_abandoned_of found event command name side).1
  abandoned_dialog None event command name side =
      (allows.refusal command.call_id event.id.place NoSuchDialog, tt)
  abandoned_dialog (Some held) event command name side = ended_by (dialog_at name side.dialogs)
    where
      ended_by : (o : Option HeldDialog) → All (option_map_or (λ held. ended_notice held ∷ []) o [])
      ended_by None = tt
      ended_by (Some held) = (allows.ended held, tt)

  pub abandon_dialog_told : (event : Event) (command : AbandonDialog) (side : Side)
      → All (dialog_abandoned event command side).1
  abandon_dialog_told event command side =
      let name = name_in command.local_tag command.remote_tag in
      abandoned_dialog (dialog_at name side.dialogs) event command name side
