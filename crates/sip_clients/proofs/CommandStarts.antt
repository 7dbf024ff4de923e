-- A command of the user starts at most one transaction, a client's, under the id of its event.
use Rattle.std.proofs.Common.{◌≡◌, ℕ, ◌+◌, ◌≤◌, Bool, true, false, cond, List, [], ◌∷◌, ◌++◌, refl, sym, subst}
use Rattle.std.specs.Prelude.{Option, None, Some}
use Rattle.sip_message.specs.declared.id.Id.{Id}
use Rattle.sip_user.specs.declared.command.Cancel.{Cancel}
use Rattle.sip_user.specs.declared.command.DialogBody.{DialogBody}
use Rattle.sip_user.specs.declared.command.DialogRequest.{DialogRequest}
use Rattle.sip_user.specs.declared.command.Invite.{Invite}
use Rattle.sip_user.specs.declared.command.Plain.{Plain as PlainCommand}
use Rattle.sip_held_dialogs.specs.declared.pending_request.PendingRequest.{PendingRequest}
use Rattle.sip_held_dialogs.specs.declared.pending_request.PendingRequest.TheVariants.{Ack, Prack}
use Rattle.sip_held_dialogs.specs.declared.held_dialog.DialogId.{DialogId}
use Rattle.sip_user.specs.declared.item.CallOut.{CallOut}
use Rattle.sip_user.specs.declared.refusal.Refusal.TheVariants.{BadMethod, NoSuchRequest}
use Rattle.sip_held_dialogs.specs.Ids.{is_id}
use Rattle.sip_held_dialogs.proofs.Starts.{starts}
use Rattle.sip_clients.specs.declared.answers.SentAck.{SentAck}
use Rattle.sip_clients.specs.declared.cancel_command.CancelCase.{CancelCase}
use Rattle.sip_clients.specs.declared.cancel_command.CancelCase.TheVariants as asked
use Rattle.sip_clients.specs.declared.client.RequestKind.TheVariants.{InitialInvite, OutOfDialog}
use Rattle.sip_clients.specs.declared.client.Cancelling.{Cancelling}
use Rattle.sip_clients.specs.declared.client.Cancelling.TheVariants as cancel
use Rattle.sip_clients.specs.declared.client.Client.{Client}
use Rattle.sip_clients.specs.declared.pending.PendingKind.TheVariants as kind
use Rattle.sip_clients.specs.declared.event.Event.{Event}
use Rattle.sip_clients.specs.declared.send_outcome.SendOutcome.{SendOutcome}
use Rattle.sip_clients.specs.Cancel.{asked as with_cancel, cancel_case, cancel_by_user, cancel_client, cancelled_as, cancelled_of, sent_beside}
use Rattle.sip_clients.specs.Client.{Clients, Side, ClientTaken, client_at, client_changed, client_for, with_client}
use Rattle.sip_clients.specs.Clients.{ack_kept, ack_paid, ack_by_user, acked_with, invite_taken, plain_taken, prack_paid, prack_by_user, request_by_user, settled, started}
use Rattle.sip_clients.specs.Commands.{ack_asked, bye_ended, pending_for, is_bad_outside, name_in, requested_at}
use Rattle.sip_clients.specs.Dialogs.{paid_at}
use Rattle.sip_user.specs.Notices.{refused}
use Rattle.sip_clients.specs.Outputs.{request_said, start_command}
use Rattle.sip_clients.specs.Outside.{invite_of, plain_of}
use Rattle.sip_clients.proofs.StartBounds.{waits_in, waits_for, waiting, AllClients, how_many, ids_of, Fits, Within, fits, none_more, no_weight, same_weight, more_weight, swapped, none_of, of_none, nothing, at_most_same, started_within, settled_within, said_fresh, sent_within}
use Rattle.sip_clients.proofs.Tally.{tally_changed, weight}
use Rattle.sip_clients.proofs.WithoutStarts.{none_started, request_said_quiet, ack_said_quiet, bye_quiet, silent_fits}
use Rattle.sip_clients.proofs.Served.{paid_either}

module _ (event : Event) where
  abbrev OwnOf : Clients → Clients × List CallOut → Type 0
  OwnOf clients taken = Fits (Some event.id) clients taken.1 taken.0

  quiet_fits : (clients : Clients) (outs : List CallOut) → starts outs ≡ []
      → OwnOf clients (clients, outs)
  quiet_fits clients outs none =
      silent_fits (Some event.id) clients outs clients none (at_most_same clients)

  started_fits : (client : Client) (clients : Clients) → client.cancel ≡ cancel.NotAsked
      → OwnOf clients (started event client clients)
  started_fits client clients fresh =
      fits (Some event.id) clients (start_command event.id client ∷ [])
      (with_client event.id client clients)
      (started_within event client clients fresh)

  pub invite_fits : (command : Invite) (clients : Clients)
      → OwnOf clients (invite_taken event command clients)
  invite_fits command clients =
      started_fits (client_for event.id InitialInvite (invite_of event command) command.address)
      clients
      refl

  plain_by : (b : Bool) (client : Client) (clients : Clients) (refused : List CallOut)
      → starts refused ≡ [] → client.cancel ≡ cancel.NotAsked
      → OwnOf clients (cond {A = Clients × List CallOut} b (clients, refused)
      (started event client clients))
  plain_by true client clients refused none fresh = quiet_fits clients refused none
  plain_by false client clients refused none fresh = started_fits client clients fresh

  pub plain_fits : (command : PlainCommand) (clients : Clients)
      → OwnOf clients (plain_taken event command clients)
  plain_fits command clients =
      plain_by (is_bad_outside command.method)
      (client_for event.id OutOfDialog (plain_of event command) command.address) clients
      (refused event.id command.call_id BadMethod) refl refl

  -- what is told, and how the requests change
  said_fits : (call_id : List ℕ) (name : DialogId) (outcome : SendOutcome) (clients : Clients)
      → OwnOf clients (
        (settled event event.id (request_said event call_id name outcome).1 clients).0,
        (request_said event call_id name outcome).0
            ++ (settled event event.id (request_said event call_id name outcome).1 clients).1,
      )
  said_fits call_id name outcome clients =
      let said = request_said event call_id name outcome in
      let after = settled event event.id said.1 clients in
      fits (Some event.id) clients (said.0 ++ after.1) after.0
      (subst (λ started. Within (λ id. weight (is_id id) (Some event.id)
      + how_many id (waiting clients)) started after.0)
      (sym (none_of said.0 after.1
      (none_started said.0 (request_said_quiet event call_id name outcome))))
      (settled_within event event.id said.1 clients (said_fresh event call_id name outcome)))

  then_silent : (clients after : Clients) (outs ends : List CallOut)
      → starts ends ≡ [] → Fits (Some event.id) clients outs after
      → Fits (Some event.id) clients (outs ++ ends) after
  then_silent clients after outs ends none first =
      let same = of_none outs ends none in
      record {
        of_clients = subst AllClients (sym same) first.of_clients;
        few = λ id. subst (λ started. how_many id (ids_of started) + how_many id (waiting after)
            ≤ weight (is_id id) (Some event.id) + how_many id (waiting clients)) (sym same)
            (first.few id);
      }

  abbrev OnSide : Side → ClientTaken → Type 0
  OnSide side taken = Fits (Some event.id) side.clients taken.1 (taken.0).clients

  pub request_fits : (command : DialogRequest) (side : Side)
      → OnSide side (request_by_user event command side)
  request_fits command side =
      let name = name_in command.local_tag command.remote_tag in
      let done = requested_at name event command side.dialogs in
      let said = request_said event command.call_id name done.1 in
      let ends = bye_ended name command.method done.1 done.0 in
      let after = settled event event.id said.1 side.clients in
      then_silent side.clients after.0 (said.0 ++ after.1) ends.1
      (none_started ends.1 (bye_quiet name command.method done.1 done.0))
      (said_fits command.call_id name done.1 side.clients)

  noted_fewer : (pending : PendingRequest) (name : DialogId) (ack : Option SentAck)
      (clients : Clients)
      (id : Id) → how_many id (waiting (ack_kept pending name ack clients))
      ≤ how_many id (waiting clients)
  noted_fewer (Ack invite number) name None clients id = at_most_same clients id
  noted_fewer (Ack invite number) name (Some ack) clients id =
      no_weight (how_many id (waiting (client_changed invite (acked_with name ack) clients)))
      (how_many id (waiting clients))
      (tally_changed waits_for (is_id id) (is_id invite) (acked_with name ack) 0
      (λ client. same_weight (weight (is_id id) (waits_in client.cancel))) clients)
  noted_fewer (Prack rseq number) name ack clients id = at_most_same clients id

  pub ack_fits : (command : DialogBody) (side : Side)
      → OnSide side (ack_by_user event command side)
  ack_fits command side =
      let name = name_in command.local_tag command.remote_tag in
      paid_either (OnSide side) event command (ack_paid event command name) side
      (pending_for kind.Ack name side.dialogs)
      (λ refusal. quiet_fits side.clients (refused event.id command.call_id refusal) refl)
      (λ pending. let told = ack_asked event name pending command side.dialogs in
      silent_fits (Some event.id) side.clients told.1 (ack_kept pending name told.2 side.clients)
      (none_started told.1 (ack_said_quiet event command.call_id
      (paid_at name event pending command.content side.dialogs).1))
      (noted_fewer pending name told.2 side.clients))

  pub prack_fits : (command : DialogBody) (side : Side)
      → OnSide side (prack_by_user event command side)
  prack_fits command side =
      let name = name_in command.local_tag command.remote_tag in
      paid_either (OnSide side) event command (prack_paid event command name) side
      (pending_for kind.Prack name side.dialogs)
      (λ refusal. quiet_fits side.clients (refused event.id command.call_id refusal) refl)
      (λ pending. said_fits command.call_id name
      (paid_at name event pending command.content side.dialogs).1 side.clients)

  -- ---- CANCEL

  asked_at_most : (command : Cancel) (state : Cancelling) (clients : Clients) (id : Id)
      → how_many id (waiting (client_changed command.id (with_cancel state) clients))
      ≤ how_many id (waiting clients) + weight (is_id id) (waits_in state)
  asked_at_most command state clients id =
      tally_changed waits_for (is_id id) (is_id command.id) (with_cancel state)
      (weight (is_id id) (waits_in state))
      (λ client. more_weight (weight (is_id id) (waits_in client.cancel))
      (weight (is_id id) (waits_in state))) clients

  cancel_by : (as_case : CancelCase) (command : Cancel) (invite : Client) (clients : Clients)
      → OwnOf clients (cancelled_as as_case event command invite clients)
  cancel_by (asked.Refused refusal) command invite clients =
      quiet_fits clients (refused event.id command.call_id refusal) refl
  cancel_by asked.Repeated command invite clients = quiet_fits clients [] refl
  cancel_by asked.Waits command invite clients =
      let after = client_changed command.id (with_cancel (cancel.Waits event.id)) clients in
      fits (Some event.id) clients [] after record {
        of_clients = tt;
        few = λ id. none_more (how_many id (waiting after))
            (weight (is_id id) (Some event.id) + how_many id (waiting clients))
            (swapped (how_many id (waiting after)) (how_many id (waiting clients))
            (weight (is_id id) (Some event.id))
            (asked_at_most command (cancel.Waits event.id) clients id));
      }
  cancel_by asked.Starts command invite clients =
      let after = client_changed command.id (with_cancel cancel.Sent) clients in
      let sent = sent_beside (Some (cancel_client event.id invite)) (after, []) in
      fits (Some event.id) clients sent.1 sent.0
      (sent_within (Some event.id) invite (λ id. how_many id (waiting clients)) (after, [])
      (nothing clients after (λ id. no_weight (how_many id (waiting after))
      (how_many id (waiting clients)) (asked_at_most command cancel.Sent clients id))))

  cancel_found : (o : Option Client) (command : Cancel) (clients : Clients)
      → OwnOf clients (cancelled_of o event command clients)
  cancel_found None command clients =
      quiet_fits clients (refused event.id command.call_id NoSuchRequest) refl
  cancel_found (Some invite) command clients = cancel_by (cancel_case invite) command invite clients

  pub cancel_fits : (command : Cancel) (side : Side)
      → OnSide side (cancel_by_user event command side)
  cancel_fits command side = cancel_found (client_at command.id side.clients) command side.clients
