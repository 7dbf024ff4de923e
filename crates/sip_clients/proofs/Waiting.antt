-- A CANCEL that was asked for waits only while no provisional response came.
use Rattle.std.proofs.Common.{◌≡◌, ℕ, Bool, true, false, not, cond, List, [], ◌++◌, refl, sym, subst, ◌∙◌}
use Rattle.std.specs.Prelude.{Option, None, Some, Result, Ok, Err, IfSome, is_some, if◌then◌else◌}
use Rattle.std.specs.Map.{set_value}
use Rattle.std.specs.Option.{option_map_or}
use Rattle.sip_message.specs.declared.id.Id.{Id}
use Rattle.sip_message.specs.declared.message.Message.{Message}
use Rattle.sip_user.specs.declared.command.Cancel.{Cancel}
use Rattle.sip_user.specs.declared.command.DialogBody.{DialogBody}
use Rattle.sip_user.specs.declared.command.DialogRequest.{DialogRequest}
use Rattle.sip_user.specs.declared.command.Invite.{Invite}
use Rattle.sip_user.specs.declared.command.Plain.{Plain as PlainCommand}
use Rattle.sip_held_dialogs.specs.declared.pending_request.PendingRequest.{PendingRequest}
use Rattle.sip_held_dialogs.specs.declared.pending_request.PendingRequest.TheVariants.{Ack, Prack}
use Rattle.sip_held_dialogs.specs.declared.held_dialog.DialogId.{DialogId}
use Rattle.sip_user.specs.declared.item.CallOut.{CallOut}
use Rattle.sip_user.specs.declared.refusal.Refusal.{Refusal}
use Rattle.sip_user.specs.declared.refusal.Refusal.TheVariants.{AlreadyFinal, BadMethod, NoSuchRequest}
use Rattle.sip_held_dialogs.specs.Ids.{is_id}
use Rattle.sip_user.specs.Notices.{refused}
use Rattle.sip_held_dialogs.specs.Requests.{is_final}
use Rattle.sip_held_dialogs.proofs.Each.{each_but_one, each_inserted, each_left, each_set, found_one}
use Rattle.sip_clients.specs.declared.answers.SentAck.{SentAck}
use Rattle.sip_clients.specs.declared.cancel_command.CancelCase.{CancelCase}
use Rattle.sip_clients.specs.declared.cancel_command.CancelCase.TheVariants as ask
use Rattle.sip_clients.specs.declared.client.Cancelling.{Cancelling}
use Rattle.sip_clients.specs.declared.client.Cancelling.TheVariants as cancel
use Rattle.sip_clients.specs.declared.client.Client.{Client}
use Rattle.sip_clients.specs.declared.client.RequestKind.TheVariants.{InitialInvite, OutOfDialog}
use Rattle.sip_clients.specs.declared.pending.PendingKind.TheVariants as kind
use Rattle.sip_clients.specs.declared.event.Event.{Event}
use Rattle.sip_clients.specs.declared.outputs.ClientChange.{ClientChange}
use Rattle.sip_clients.specs.declared.outputs.ClientChange.TheVariants.{Stays, Over, Starts}
use Rattle.sip_clients.specs.Cancel.{after_response, asked, asking_case, cancel_by_user, cancel_client, cancelled_as, cancelled_of, cancelling_after, freed_by}
use Rattle.sip_clients.specs.Client.{Clients, Side, client_at, client_changed, client_for}
use Rattle.sip_clients.specs.ClientRules.{AllWait, KeepsWaiting, WaitsForProvisional}
use Rattle.sip_clients.specs.Clients.{ack_by_user, ack_kept, ack_paid, acked_with, found_taken, invite_taken, lost_of, paid_or_refused, plain_taken, prack_by_user, prack_paid, reply_name, reply_of, reply_settled, request_by_user, request_lost, response_taken, settled, started, status_of}
use Rattle.sip_clients.specs.Commands.{pending_for, is_bad_outside, name_in, requested_at}
use Rattle.sip_clients.specs.Dialogs.{paid_at}
use Rattle.sip_clients.specs.OwnCall.{on_side}
use Rattle.sip_clients.specs.Outputs.{ack_said, request_said}
use Rattle.sip_clients.specs.Outside.{invite_of, plain_of}
use Rattle.sip_clients.specs.Replied.{reply_taken}
use Rattle.sip_clients.specs.ReceivedResponse.{is_invite_kind}
use Rattle.sip_clients.specs.Tick.{clients_ticked, is_over}
use Rattle.sip_clients.proofs.ReplyStarts.{replies}
use Rattle.sip_clients.proofs.StartBounds.{StartsFresh, said_fresh}
use Rattle.sip_clients.proofs.StoryBegins.{beside}

-- a CANCEL of a request that was just sent doesn't wait
fresh_waits : (client : Client) → client.cancel ≡ cancel.NotAsked → WaitsForProvisional client
fresh_waits client is id waits = absurd (asked_for (sym is ∙ waits))
  where
    asked_for : cancel.NotAsked ≡ cancel.Waits id → ⊥
    asked_for e = absurd cc

changed_waits : (id : Id) (change : Client → Client)
    → ((client : Client) → WaitsForProvisional client → WaitsForProvisional (change client))
    → (clients : Clients) (o : Option Client) → client_at id clients ≡ o → AllWait clients
    → AllWait (option_map_or (λ client. set_value (is_id id) clients (change client)) o clients)
changed_waits id change keeps clients None at all = all
changed_waits id change keeps clients (Some client) at all =
    each_set WaitsForProvisional (is_id id) clients (change client)
    (keeps client (subst (λ o. IfSome o WaitsForProvisional) at
    (found_one WaitsForProvisional (is_id id) clients all))) all

-- ---- what is sent

settled_waits : (event : Event) (id : Id) (change : ClientChange) (clients : Clients)
    → StartsFresh change → AllWait clients → AllWait (settled event id change clients).0
settled_waits event id Stays clients fresh all = all
settled_waits event id Over clients fresh all =
    each_but_one WaitsForProvisional (is_id id) clients all
settled_waits event id (Starts client) clients fresh all =
    each_inserted WaitsForProvisional is_id event.id client (fresh_waits client fresh.0) clients all

beside_waits : (invite : Client) (freed : Option Id) (done : Clients × List CallOut)
    → AllWait done.0 → AllWait (beside invite freed done).0
beside_waits invite None done all = all
beside_waits invite (Some id) done all =
    each_inserted WaitsForProvisional is_id id (cancel_client id invite)
    (fresh_waits (cancel_client id invite) refl) done.0 all

-- ---- a response

-- after a response no CANCEL waits
never_waits : (final : Bool) (state : Cancelling) (id : Id)
    → cancelling_after final state ≡ cancel.Waits id → ⊥
never_waits final cancel.NotAsked id is = absurd cc
never_waits true (cancel.Waits other) id is = absurd cc
never_waits false (cancel.Waits other) id is = absurd cc
never_waits final cancel.Sent id is = absurd cc

reply_waits : (event : Event) (id : Id) (call_id : List ℕ) (response : Message) (status : ℕ)
    (client : Client) (side : Side) → AllWait side.clients
    → AllWait ((reply_settled (reply_of event id call_id
    (reply_name client.kind client response) status response) client side).0).clients
reply_waits event id call_id response status client side all =
    let final = is_final status in
    let answer =
    reply_of event id call_id (reply_name client.kind client response) status response in
    let done = reply_taken (after_response final client) side.dialogs answer in
    let so = replies (after_response final client) side.dialogs answer in
    let put = set_value (is_id id) side.clients done.0 in
    let after = settled event id done.3 put in
    beside_waits client (freed_by final client.cancel) (after.0, done.2 ++ after.1)
    (settled_waits event id done.3 put so.fresh
    (each_set WaitsForProvisional (is_id id) side.clients done.0
    (λ waiting waits. absurd (never_waits final client.cancel waiting (sym so.kept.1 ∙ waits)))
    all))

found_waits : (event : Event) (id : Id) (call_id : List ℕ) (response : Message)
    (status : Option ℕ) (o : Option Client) (side : Side) → AllWait side.clients
    → AllWait ((found_taken event id call_id response status o side).0).clients
found_waits event id call_id response None o side all = all
found_waits event id call_id response (Some status) None side all = all
found_waits event id call_id response (Some status) (Some client) side all =
    reply_waits event id call_id response status client side all

pub response_waits : (event : Event) (id : Id) (call_id : List ℕ) (response : Message)
    → KeepsWaiting (response_taken event id call_id response)
response_waits event id call_id response side all =
    found_waits event id call_id response (status_of response.start) (client_at id side.clients)
    side all

-- ---- a request that is lost, and a tick

pub lost_waits : (id : Id) (timed_out : Bool) → KeepsWaiting (request_lost id timed_out)
lost_waits id timed_out side all = by_found (client_at id side.clients)
  where
    by_found : (o : Option Client) → AllWait ((lost_of id timed_out o side).0).clients
    by_found None = each_but_one WaitsForProvisional (is_id id) side.clients all
    by_found (Some client) = each_but_one WaitsForProvisional (is_id id) side.clients all

pub tick_waits : (now : ℕ) → KeepsWaiting (λ side. clients_ticked side now)
tick_waits now side all =
    each_left WaitsForProvisional (λ entry. not (is_over now entry.1)) side.clients all

-- ---- commands

started_waits : (event : Event) (client : Client) (clients : Clients)
    → client.cancel ≡ cancel.NotAsked → AllWait clients
    → AllWait (started event client clients).0
started_waits event client clients fresh all =
    each_inserted WaitsForProvisional is_id event.id client (fresh_waits client fresh) clients all

pub invite_waits : (event : Event) (invite : Invite)
    → KeepsWaiting (on_side (invite_taken event invite))
invite_waits event invite side all =
    started_waits event (client_for event.id InitialInvite (invite_of event invite) invite.address)
    side.clients refl all

pub plain_waits : (event : Event) (plain : PlainCommand)
    → KeepsWaiting (on_side (plain_taken event plain))
plain_waits event plain side all = by_method (is_bad_outside plain.method)
  where
    by_method : (bad : Bool) → AllWait (cond {A = Clients × List CallOut} bad
        (side.clients, refused event.id plain.call_id BadMethod)
        (started event (client_for event.id OutOfDialog (plain_of event plain) plain.address)
        side.clients)).0
    by_method true = all
    by_method false =
        started_waits event (client_for event.id OutOfDialog (plain_of event plain) plain.address)
        side.clients refl all

pub request_waits : (event : Event) (command : DialogRequest)
    → KeepsWaiting (request_by_user event command)
request_waits event command side all =
    let name = name_in command.local_tag command.remote_tag in
    let done = requested_at name event command side.dialogs in
    let said = request_said event command.call_id name done.1 in
    settled_waits event event.id said.1 side.clients
    (said_fresh event command.call_id name done.1) all

pub prack_waits : (event : Event) (command : DialogBody)
    → KeepsWaiting (prack_by_user event command)
prack_waits event command side all = by_debt (pending_for kind.Prack name side.dialogs)
  where
    name : DialogId
    name = name_in command.local_tag command.remote_tag

    by_debt : (o : Result PendingRequest Refusal) → AllWait
        ((paid_or_refused event command (prack_paid event command name) o side).0).clients
    by_debt (Err refusal) = all
    by_debt (Ok pending) =
        let done = paid_at name event pending command.content side.dialogs in
        settled_waits event event.id (request_said event command.call_id name done.1).1
        side.clients (said_fresh event command.call_id name done.1) all

kept_waits : (pending : PendingRequest) (name : DialogId) (o : Option SentAck) (clients : Clients)
    → AllWait clients → AllWait (ack_kept pending name o clients)
kept_waits (Ack invite number) name None clients all = all
kept_waits (Ack invite number) name (Some ack) clients all =
    changed_waits invite (acked_with name ack) (λ client waits. waits) clients
    (client_at invite clients) refl all
kept_waits (Prack rseq number) name o clients all = all

pub ack_waits : (event : Event) (command : DialogBody)
    → KeepsWaiting (ack_by_user event command)
ack_waits event command side all = by_debt (pending_for kind.Ack name side.dialogs)
  where
    name : DialogId
    name = name_in command.local_tag command.remote_tag

    by_debt : (o : Result PendingRequest Refusal) → AllWait
        ((paid_or_refused event command (ack_paid event command name) o side).0).clients
    by_debt (Err refusal) = all
    by_debt (Ok pending) =
        let done = paid_at name event pending command.content side.dialogs in
        kept_waits pending name (ack_said event command.call_id done.1).1 side.clients all

module _ (event : Event) (command : Cancel) (side : Side) (all : AllWait side.clients)
    (invite : Client) (at : client_at command.id side.clients ≡ Some invite) where
  abbrev AskedWaits : CancelCase → Type 0
  AskedWaits case = AllWait (cancelled_as case event command invite side.clients).0

  asked_waits : (state : Cancelling) → WaitsForProvisional (asked state invite)
      → AllWait (client_changed command.id (asked state) side.clients)
  asked_waits state so =
      subst (λ o. AllWait (option_map_or
      (λ client. set_value (is_id command.id) side.clients (asked state client)) o side.clients))
      (sym at)
      (each_set WaitsForProvisional (is_id command.id) side.clients (asked state invite) so all)

  sent_waits : WaitsForProvisional (asked cancel.Sent invite)
  sent_waits id waits = absurd (never waits)
    where
      never : cancel.Sent ≡ cancel.Waits id → ⊥
      never e = absurd cc

  by_state : (provisional : Bool) (state : Cancelling) → invite.provisional ≡ provisional
      → AskedWaits (asking_case provisional state)
  by_state true cancel.NotAsked came =
      beside_waits invite (Some event.id)
      (client_changed command.id (asked cancel.Sent) side.clients, [])
      (asked_waits cancel.Sent sent_waits)
  by_state false cancel.NotAsked came =
      asked_waits (cancel.Waits event.id) (λ id waits. came)
  by_state provisional (cancel.Waits id) came = all
  by_state provisional cancel.Sent came = all

  by_removal : (final : Bool) → AskedWaits (if final then ask.Refused AlreadyFinal
      else asking_case invite.provisional invite.cancel)
  by_removal true = all
  by_removal false = by_state invite.provisional invite.cancel refl

  pub by_kind : (inviting : Bool) → AskedWaits (if not inviting then ask.Refused NoSuchRequest
      else (if is_some invite.removal then ask.Refused AlreadyFinal
      else asking_case invite.provisional invite.cancel))
  by_kind true = by_removal (is_some invite.removal)
  by_kind false = all

pub cancel_waits : (event : Event) (command : Cancel)
    → KeepsWaiting (cancel_by_user event command)
cancel_waits event command side all = by_found (client_at command.id side.clients) refl
  where
    by_found : (o : Option Client) → client_at command.id side.clients ≡ o
        → AllWait (cancelled_of o event command side.clients).0
    by_found None at = all
    by_found (Some invite) at =
        by_kind event command side all invite at (is_invite_kind invite.kind)
