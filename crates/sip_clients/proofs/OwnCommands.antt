-- Commands of the user on the client side of a call keep to its own Call-ID.
use Rattle.std.proofs.Common.{◌≡◌, ℕ, Bool, true, false, cond, List, [], ◌++◌, refl, ◌∙◌}
use Rattle.std.specs.Prelude.{Option, None, Some, IfSome, codes}
use Rattle.sip_message.specs.declared.id.Id.{Id}
use Rattle.sip_message.specs.declared.message.Message.{Message}
use Rattle.sip_user.specs.declared.command.Cancel.{Cancel}
use Rattle.sip_user.specs.declared.command.DialogBody.{DialogBody}
use Rattle.sip_user.specs.declared.command.DialogRequest.{DialogRequest}
use Rattle.sip_user.specs.declared.command.Invite.{Invite}
use Rattle.sip_user.specs.declared.command.Plain.{Plain as PlainCommand}
use Rattle.sip_user.specs.declared.command.ProvisionalSupport.{ProvisionalSupport}
use Rattle.sip_user.specs.declared.command.ProvisionalSupport.TheVariants as support
use Rattle.sip_held_dialogs.specs.declared.pending_request.PendingRequest.{PendingRequest}
use Rattle.sip_held_dialogs.specs.declared.pending_request.PendingRequest.TheVariants.{Ack, Prack}
use Rattle.sip_held_dialogs.specs.declared.held_dialog.DialogId.{DialogId}
use Rattle.sip_user.specs.declared.item.CallOut.{CallOut}
use Rattle.sip_user.specs.declared.refusal.Refusal.TheVariants.{BadMethod}
use Rattle.sip_held_dialogs.specs.Ids.{is_id}
use Rattle.sip_clients.specs.declared.answers.SentAck.{SentAck}
use Rattle.sip_clients.specs.declared.cancel_command.CancelCase.{CancelCase}
use Rattle.sip_clients.specs.declared.cancel_command.CancelCase.TheVariants as ask
use Rattle.sip_clients.specs.declared.client.RequestKind.TheVariants.{InitialInvite, OutOfDialog}
use Rattle.sip_clients.specs.declared.client.Cancelling.{Cancelling}
use Rattle.sip_clients.specs.declared.client.Cancelling.TheVariants as cancel
use Rattle.sip_clients.specs.declared.client.Client.{Client}
use Rattle.sip_clients.specs.declared.pending.PendingKind.TheVariants as kind
use Rattle.sip_clients.specs.declared.event.Event.{Event}
use Rattle.sip_clients.specs.Cancel.{asked, cancel_case, cancel_by_user, cancelled_as, cancelled_of}
use Rattle.sip_clients.specs.Client.{Clients, client_at, client_changed, client_for}
use Rattle.sip_clients.specs.Clients.{ack_kept, ack_paid, ack_by_user, acked_with, invite_taken, plain_taken, prack_paid, prack_by_user, request_by_user, settled, started}
use Rattle.sip_clients.specs.Commands.{ack_asked, bye_ended, pending_for, is_bad_outside, name_in, requested_at}
use Rattle.sip_clients.specs.Dialogs.{paid_at}
use Rattle.sip_user.specs.Notices.{refused}
use Rattle.sip_clients.specs.Outputs.{request_said}
use Rattle.sip_clients.specs.Outside.{bare_invite, bare_plain, bare_request, invite_of, plain_of, supporting, through}
use Rattle.sip_clients.specs.OwnCall.{AreClientsOf, IsNoticeOf, IsRequestOf, KeepsTo, on_side, IsSideOf, AreNoticesOf}
use Rattle.sip_held_dialogs.proofs.Each.{both, each_changed}
use Rattle.sip_clients.proofs.OwnDialogs.{content_kept, bye_own, paid_own, requested_at_own}
use Rattle.sip_clients.proofs.OwnReplies.{AreSettledOf, request_said_own, ack_said_own, started_own, settled_own, beside_own, client_own}
use Rattle.sip_clients.proofs.Served.{paid_either}

supporting_kept : (asked_for : ProvisionalSupport) (message : Message)
    → (supporting asked_for message).call_id ≡ message.call_id
supporting_kept support.None message = refl
supporting_kept support.Supported message = refl
supporting_kept support.Required message = refl

-- ---- commands outside of dialogs

bare_kept : (event : Event) (call_id method uri from to : List ℕ)
    → (bare_request event call_id method uri from to).call_id ≡ call_id
unfolding bare_request
bare_kept event call_id method uri from to = refl

invite_kept : (event : Event) (invite : Invite)
    → (invite_of event invite).call_id ≡ invite.call_id
invite_kept event invite =
    content_kept (through invite.routes (bare_invite event invite)) invite.content
    ∙ (supporting_kept invite.support _
    ∙ bare_kept event invite.call_id (codes "INVITE") invite.request_uri invite.from invite.to)

plain_kept : (event : Event) (plain : PlainCommand)
    → (plain_of event plain).call_id ≡ plain.call_id
plain_kept event plain =
    content_kept (through plain.routes (bare_plain event plain)) plain.content
    ∙ bare_kept event plain.call_id plain.method plain.request_uri plain.from plain.to

pub invite_own : (event : Event) (invite : Invite)
    → KeepsTo invite.call_id (on_side (invite_taken event invite))
invite_own event invite side own =
    let client = client_for event.id InitialInvite (invite_of event invite) invite.address in
    let so = started_own invite.call_id event client side.clients (invite_kept event invite)
    own.clients in
    (record { dialogs = own.dialogs; clients = so.0 }, so.1)

plain_by : (b : Bool) (event : Event) (plain : PlainCommand) (clients : Clients)
    → AreClientsOf plain.call_id clients
    → AreSettledOf plain.call_id (cond {A = Clients × List CallOut} b
    (clients, refused event.id plain.call_id BadMethod)
    (started event (client_for event.id OutOfDialog (plain_of event plain) plain.address) clients))
plain_by true event plain clients own = (own, (refl, tt))
plain_by false event plain clients own =
    started_own plain.call_id event
    (client_for event.id OutOfDialog (plain_of event plain) plain.address) clients
    (plain_kept event plain) own

pub plain_own : (event : Event) (plain : PlainCommand)
    → KeepsTo plain.call_id (on_side (plain_taken event plain))
plain_own event plain side own =
    let so = plain_by (is_bad_outside plain.method) event plain side.clients own.clients in
    (record { dialogs = own.dialogs; clients = so.0 }, so.1)

-- ---- commands in a dialog

pub dialog_request_own : (event : Event) (command : DialogRequest)
    → KeepsTo command.call_id (request_by_user event command)
dialog_request_own event command side own =
    let call_id = command.call_id in
    let name = name_in command.local_tag command.remote_tag in
    let done = requested_at name event command side.dialogs in
    let so = requested_at_own call_id name event command side.dialogs own.dialogs in
    let said = request_said event call_id name done.1 in
    let says = request_said_own call_id event call_id refl name done.1 so.1 in
    let ends = bye_own call_id name command.method done.1 done.0 so.0 in
    let after = settled event event.id said.1 side.clients in
    let settles = settled_own call_id event event.id said.1 side.clients says.1 own.clients in
    let bye = bye_ended name command.method done.1 done.0 in (
      record { dialogs = ends.0; clients = settles.0 },
      both (IsNoticeOf call_id) (said.0 ++ after.1) bye.1
          (both (IsNoticeOf call_id) said.0 after.1 says.0 settles.1) ends.1,
    )

noted_own : (call_id : List ℕ) (pending : PendingRequest) (name : DialogId) (ack : Option SentAck)
    (clients : Clients) → AreClientsOf call_id clients
    → AreClientsOf call_id (ack_kept pending name ack clients)
noted_own call_id (Ack invite number) name None clients own = own
noted_own call_id (Ack invite number) name (Some ack) clients own =
    each_changed (IsRequestOf call_id) (is_id invite) (acked_with name ack)
    (λ client its. its) clients own
noted_own call_id (Prack rseq number) name ack clients own = own

ack_paid_own : (event : Event) (command : DialogBody) (name : DialogId) (pending : PendingRequest)
    → KeepsTo command.call_id (ack_paid event command name pending)
ack_paid_own event command name pending side own =
    let call_id = command.call_id in
    let told = ack_asked event name pending command side.dialogs in
    let sent_pending = paid_at name event pending command.content side.dialogs in
    let so = paid_own call_id name event pending command.content side.dialogs own.dialogs in
    let after_response = noted_own call_id pending name told.2 side.clients own.clients in (
      record { dialogs = so.0; clients = after_response },
      ack_said_own call_id event call_id refl sent_pending.1,
    )

prack_paid_own : (event : Event) (command : DialogBody) (name : DialogId) (pending : PendingRequest)
    → KeepsTo command.call_id (prack_paid event command name pending)
prack_paid_own event command name pending side own =
    let call_id = command.call_id in
    let sent_pending = paid_at name event pending command.content side.dialogs in
    let so = paid_own call_id name event pending command.content side.dialogs own.dialogs in
    let said = request_said event call_id name sent_pending.1 in
    let says = request_said_own call_id event call_id refl name sent_pending.1 so.1 in
    let after = settled event event.id said.1 side.clients in
    let settles = settled_own call_id event event.id said.1 side.clients says.1 own.clients in (
      record { dialogs = so.0; clients = settles.0 },
      both (IsNoticeOf call_id) said.0 after.1 says.0 settles.1,
    )

pub ack_own : (event : Event) (command : DialogBody)
    → KeepsTo command.call_id (ack_by_user event command)
ack_own event command side own =
    let name = name_in command.local_tag command.remote_tag in
    paid_either (λ taken. IsSideOf command.call_id taken.0 × AreNoticesOf command.call_id taken.1)
    event command (ack_paid event command name) side (pending_for kind.Ack name side.dialogs)
    (λ refusal. (own, (refl, tt))) (λ pending. ack_paid_own event command name pending side own)

pub prack_own : (event : Event) (command : DialogBody)
    → KeepsTo command.call_id (prack_by_user event command)
prack_own event command side own =
    let name = name_in command.local_tag command.remote_tag in
    paid_either (λ taken. IsSideOf command.call_id taken.0 × AreNoticesOf command.call_id taken.1)
    event command (prack_paid event command name) side (pending_for kind.Prack name side.dialogs)
    (λ refusal. (own, (refl, tt))) (λ pending. prack_paid_own event command name pending side own)

-- ---- CANCEL

asked_own : (call_id : List ℕ) (id : Id) (state : Cancelling) (clients : Clients)
    → AreClientsOf call_id clients
    → AreClientsOf call_id (client_changed id (asked state) clients)
asked_own call_id id state clients own =
    each_changed (IsRequestOf call_id) (is_id id) (asked state) (λ client its. its) clients own

cancel_by : (as_case : CancelCase) (event : Event) (command : Cancel) (invite : Client)
    (clients : Clients) → IsRequestOf command.call_id invite
    → AreClientsOf command.call_id clients
    → AreSettledOf command.call_id (cancelled_as as_case event command invite clients)
cancel_by (ask.Refused refusal) event command invite clients its own = (own, (refl, tt))
cancel_by ask.Repeated event command invite clients its own = (own, tt)
cancel_by ask.Waits event command invite clients its own =
    (asked_own command.call_id command.id (cancel.Waits event.id) clients own, tt)
cancel_by ask.Starts event command invite clients its own =
    beside_own command.call_id (Some event.id) invite its
    (client_changed command.id (asked cancel.Sent) clients, [])
    (asked_own command.call_id command.id cancel.Sent clients own, tt)

cancel_found : (found : Option Client) (event : Event) (command : Cancel) (clients : Clients)
    → IfSome found (IsRequestOf command.call_id) → AreClientsOf command.call_id clients
    → AreSettledOf command.call_id (cancelled_of found event command clients)
cancel_found None event command clients its own = (own, (refl, tt))
cancel_found (Some invite) event command clients its own =
    cancel_by (cancel_case invite) event command invite clients its own

pub cancel_own : (event : Event) (command : Cancel)
    → KeepsTo command.call_id (cancel_by_user event command)
cancel_own event command side own =
    let so = cancel_found (client_at command.id side.clients) event command side.clients
    (client_own command.call_id command.id side.clients own.clients) own.clients in
    (record { dialogs = own.dialogs; clients = so.0 }, so.1)
