-- A command in a dialog that is refused only gives its notice, and changes nothing.
use Rattle.std.proofs.Common.{◌≡◌, ℕ, Bool, true, false, List, [], ◌∷◌, ◌++◌, map, refl, sym, ◌∙◌, ap}
use Rattle.std.specs.Prelude.{Option, None, Some, codes}
use Rattle.std.specs.List.{list_any}
use Rattle.std.specs.Option.{option_map_or}
use Rattle.std.specs.Str.{bytes_eq}
use Rattle.std.proofs.lemmas.Bool.{false≢true}
use Rattle.sip_message.specs.Content.{Content}
use Rattle.sip_message.specs.declared.rack.RAck.{RAck}
use Rattle.sip_dialog.specs.declared.fault.DialogFault.{DialogFault}
use Rattle.sip_message.specs.declared.id.Id.{Id}
use Rattle.sip_held_dialogs.specs.Dialogs.{dialog_at, ended_notice, lived, Dialogs}
use Rattle.sip_user.specs.Notices.{refused}
use Rattle.sip_user.specs.Refusal.{first_refusal}
use Rattle.sip_user.specs.declared.command.Cancel.{Cancel}
use Rattle.sip_user.specs.declared.command.DialogBody.{DialogBody}
use Rattle.sip_user.specs.declared.command.DialogRequest.{DialogRequest}
use Rattle.sip_held_dialogs.specs.declared.pending_request.PendingRequest.{PendingRequest}
use Rattle.sip_held_dialogs.specs.declared.pending_request.PendingRequest.TheVariants as pending
use Rattle.sip_held_dialogs.specs.declared.held_dialog.DialogId.{DialogId}
use Rattle.sip_held_dialogs.specs.declared.held_dialog.HeldDialog.{HeldDialog}
use Rattle.sip_user.specs.declared.item.CallOut.{CallOut}
use Rattle.sip_user.specs.declared.refusal.Refusal.{Refusal}
use Rattle.sip_user.specs.declared.refusal.Refusal.TheVariants.{NoSuchDialog, NoSuchRequest}
use Rattle.sip_clients.specs.Cancel.{cancel_case, cancel_by_user, cancelled_as, cancelled_of}
use Rattle.sip_clients.specs.Client.{Clients, Side, client_at, ClientTaken}
use Rattle.sip_clients.specs.Clients.{ack_kept, ack_paid, ack_by_user, prack_paid, prack_by_user, request_settled, request_by_user, settled}
use Rattle.sip_clients.specs.Commands.{bye_ended, pending_for, name_in, request_in_held, request_refusals, requested_at, sent_unless}
use Rattle.sip_clients.specs.Dialogs.{paid_at}
use Rattle.sip_clients.specs.Pending.{dropped_if_sent, sent_pending}
use Rattle.sip_clients.specs.Outputs.{ack_said, request_said, start_command}
use Rattle.sip_clients.specs.SendOutcome.{happens_by_sending, requested, discharged, sending_in, outcome_by}
use Rattle.sip_clients.specs.declared.cancel_command.CancelCase.{CancelCase}
use Rattle.sip_clients.specs.declared.cancel_command.CancelCase.TheVariants as cancel
use Rattle.sip_clients.specs.declared.client.Client.{Client}
use Rattle.sip_clients.specs.declared.pending.PendingKind.TheVariants as kind
use Rattle.sip_clients.specs.declared.event.Event.{Event}
use Rattle.sip_clients.specs.declared.send_outcome.OutgoingRequest.{OutgoingRequest}
use Rattle.sip_clients.specs.declared.send_outcome.SendOutcome.{SendOutcome}
use Rattle.sip_clients.specs.declared.send_outcome.SendOutcome.TheVariants.{Sent, Waits, Refused}
use Rattle.sip_clients.specs.RefusedCommands.{is_refusal, IsRefusedAlone}
use Rattle.sip_clients.proofs.Served.{refused_same, paid_either}

pub told_alone : {S : Type 0} (before : S) (call_id : List ℕ) (event : Id) (refusal : Refusal)
    → IsRefusedAlone before call_id event (before, refused event call_id refusal)
told_alone before call_id event refusal some = (refusal, refl)

pub silent : {S : Type 0} (before : S) (call_id : List ℕ) (event : Id) (taken : S × List CallOut)
    → list_any is_refusal taken.1 ≡ false → IsRefusedAlone before call_id event taken
silent before call_id event taken none some = absurd (false≢true (sym none ∙ some))

pub by_bool : {G : Type 0} (b : Bool) → (b ≡ true → G) → (b ≡ false → G) → G
by_bool true t f = t refl
by_bool false t f = f refl

-- ---- the ends of dialogs are no refusals

pub ends_told : (held : List HeldDialog) → list_any is_refusal (map ended_notice held) ≡ false
ends_told [] = refl
ends_told (h ∷ hs) = ends_told hs

pub end_told : (held : Option HeldDialog)
    → list_any is_refusal (option_map_or (λ h. ended_notice h ∷ []) held []) ≡ false
end_told None = refl
end_told (Some held) = refl

-- ---- a dialog doesn't change if a request isn't sent in it

requested_same : (event : Event) (method : List ℕ) (rack : Option RAck) (content : Content)
    (held : HeldDialog) (refusal : Refusal)
    → (requested event method rack content held).1 ≡ Refused refusal
    → (requested event method rack content held).0 ≡ held
requested_same event method rack content held refusal e = by_fault _ _ e
  where
    by_fault : (fault : Option DialogFault) (sending : OutgoingRequest)
        → outcome_by fault sending ≡ Refused refusal → lived (happens_by_sending method fault) held
        ≡ held
    by_fault None sending is = absurd cc
    by_fault (Some fault) sending is = refl

request_same : (event : Event) (method : List ℕ) (content : Content) (held : HeldDialog)
    (refusal : Refusal) → (request_in_held event method content held).1 ≡ Refused refusal
    → (request_in_held event method content held).0 ≡ held
unfolding request_in_held
request_same event method content held refusal e =
    unless (first_refusal (request_refusals held.dialog method) None) e
  where
    sending : OutgoingRequest
    sending = sending_in event method None content held

    unless : (first : Option Refusal) → (sent_unless first sending held).1 ≡ Refused refusal
        → (sent_unless first sending held).0 ≡ held
    unless None is = absurd cc
    unless (Some first) is = refl

served_same : (event : Event) (pending_requests : PendingRequest) (content : Content)
    (held : HeldDialog)
    (refusal : Refusal) → (discharged event pending_requests (Some content) held).1
    ≡ Refused refusal
    → (discharged event pending_requests (Some content) held).0 ≡ held
unfolding discharged
served_same event (pending.Ack invite number) content held refusal e = refl
served_same event (pending.Prack rseq number) content held refusal e =
    requested_same event (codes "PRACK") _ content held refusal e

debt_same : (event : Event) (pending_requests : PendingRequest) (content : Content)
    (held : HeldDialog)
    (refusal : Refusal) → (sent_pending event pending_requests content held).1 ≡ Refused refusal
    → (sent_pending event pending_requests content held).0 ≡ held
unfolding sent_pending
debt_same event pending_requests content held refusal e =
    ap (λ outcome. dropped_if_sent pending_requests outcome
    (discharged event pending_requests (Some content) held).0) e
    ∙ served_same event pending_requests content held refusal e

-- ---- a request in a dialog, an ACK and a PRACK

module _ (event : Event) (side : Side) where
  abbrev Lonely : List ℕ → ClientTaken → Type 0
  Lonely call_id taken = IsRefusedAlone side call_id event.id taken

  -- if the request isn't sent, the dialogs don't change
  abbrev Keeps : Dialogs → SendOutcome → Type 0
  Keeps dialogs outcome =
      (refusal : Refusal) → outcome ≡ Refused refusal → dialogs ≡ side.dialogs

  abbrev request_done : DialogId → DialogRequest → Dialogs → SendOutcome → ClientTaken
  request_done name command dialogs outcome =
      let bye = bye_ended name command.method outcome dialogs in
      let said = request_said event command.call_id name outcome in
      let after = request_settled event said.0 said.1 bye.1 side.clients in
      (record { dialogs = bye.0; clients = after.0 }, after.1)

  bye_told : (name : DialogId) (method : List ℕ) (sending : OutgoingRequest) (dialogs : Dialogs)
      → list_any is_refusal (bye_ended name method (Sent sending) dialogs).1 ≡ false
  bye_told name method sending dialogs =
      by_bool (bytes_eq method (codes "BYE")) (λ bye. rw bye (end_told (dialog_at name dialogs)))
      (λ other. rw other refl)

  request_by : (name : DialogId) (command : DialogRequest) (dialogs : Dialogs)
      (outcome : SendOutcome) → Keeps dialogs outcome
      → Lonely command.call_id (request_done name command dialogs outcome)
  unfolding start_command
  request_by name command dialogs (Sent sending) same =
      silent side command.call_id event.id
      (request_done name command dialogs (Sent sending))
      (bye_told name command.method sending dialogs)
  request_by name command dialogs Waits same =
      silent side command.call_id event.id (request_done name command dialogs Waits) refl
  request_by name command dialogs (Refused refusal) same = λ some. (
    refusal,
    ap (λ (kept : Dialogs). (
      record { dialogs = kept; clients = side.clients },
      refused event.id command.call_id refusal,
    )) (same refusal refl),
  )

  pub request_alone : (command : DialogRequest)
      → Lonely command.call_id (request_by_user event command side)
  unfolding requested_at
  request_alone command =
      let name = name_in command.local_tag command.remote_tag in
      let serve = request_in_held event command.method command.content in
      let done = requested_at name event command side.dialogs in
      request_by name command done.0 done.1
      (λ refusal. refused_same name serve (Refused NoSuchDialog) side.dialogs refusal
      (λ held. request_same event command.method command.content held refusal))

  paid_same : (name : DialogId) (pending_requests : PendingRequest) (content : Content)
      → Keeps (paid_at name event pending_requests content side.dialogs).0
      (paid_at name event pending_requests content side.dialogs).1
  paid_same name pending_requests content refusal =
      refused_same name (sent_pending event pending_requests content) Waits side.dialogs refusal
      (λ held. debt_same event pending_requests content held refusal)

  abbrev ack_done : DialogId → DialogBody → PendingRequest → Dialogs → SendOutcome → ClientTaken
  ack_done name command pending_requests dialogs outcome =
      let said = ack_said event command.call_id outcome in (
        record { dialogs = dialogs; clients = ack_kept pending_requests name said.1 side.clients },
        said.0,
      )

  none_noted : (pending_requests : PendingRequest) (name : DialogId) (clients : Clients)
      → ack_kept pending_requests name None clients ≡ clients
  none_noted (pending.Ack invite number) name clients = refl
  none_noted (pending.Prack rseq number) name clients = refl

  ack_by : (name : DialogId) (command : DialogBody) (pending_requests : PendingRequest)
      (dialogs : Dialogs)
      (outcome : SendOutcome) → Keeps dialogs outcome
      → Lonely command.call_id (ack_done name command pending_requests dialogs outcome)
  ack_by name command pending_requests dialogs (Sent sending) same =
      silent side command.call_id event.id
      (ack_done name command pending_requests dialogs (Sent sending)) refl
  ack_by name command pending_requests dialogs Waits same =
      silent side command.call_id event.id (ack_done name command pending_requests dialogs Waits)
      refl
  ack_by name command pending_requests dialogs (Refused refusal) same = λ some. (
    refusal,
    ap (λ (kept : Dialogs). (
      record { dialogs = kept; clients = ack_kept pending_requests name None side.clients },
      refused event.id command.call_id refusal,
    )) (same refusal refl)
        ∙ ap (λ (kept : Clients). (
          record { dialogs = side.dialogs; clients = kept },
          refused event.id command.call_id refusal,
        )) (none_noted pending_requests name side.clients),
  )

  abbrev prack_done : DialogId → DialogBody → Dialogs → SendOutcome → ClientTaken
  prack_done name command dialogs outcome =
      let said = request_said event command.call_id name outcome in
      let after = settled event event.id said.1 side.clients in
      (record { dialogs = dialogs; clients = after.0 }, said.0 ++ after.1)

  prack_by : (name : DialogId) (command : DialogBody) (dialogs : Dialogs) (outcome : SendOutcome)
      → Keeps dialogs outcome
      → Lonely command.call_id (prack_done name command dialogs outcome)
  unfolding start_command
  prack_by name command dialogs (Sent sending) same =
      silent side command.call_id event.id
      (prack_done name command dialogs (Sent sending)) refl
  prack_by name command dialogs Waits same =
      silent side command.call_id event.id (prack_done name command dialogs Waits) refl
  prack_by name command dialogs (Refused refusal) same = λ some. (
    refusal,
    ap (λ (kept : Dialogs). (
      record { dialogs = kept; clients = side.clients },
      refused event.id command.call_id refusal,
    )) (same refusal refl),
  )

  pub ack_alone : (command : DialogBody) → Lonely command.call_id (ack_by_user event command side)
  ack_alone command =
      let name = name_in command.local_tag command.remote_tag in
      paid_either (Lonely command.call_id) event command (ack_paid event command name) side
      (pending_for kind.Ack name side.dialogs) (told_alone side command.call_id event.id)
      (λ pending_requests. ack_by name command pending_requests
      (paid_at name event pending_requests command.content side.dialogs).0
      (paid_at name event pending_requests command.content side.dialogs).1
      (paid_same name pending_requests command.content))

  pub prack_alone : (command : DialogBody) → Lonely command.call_id
      (prack_by_user event command side)
  prack_alone command =
      let name = name_in command.local_tag command.remote_tag in
      paid_either (Lonely command.call_id) event command (prack_paid event command name) side
      (pending_for kind.Prack name side.dialogs) (told_alone side command.call_id event.id)
      (λ pending_requests. prack_by name command (paid_at name event pending_requests
      command.content side.dialogs).0
      (paid_at name event pending_requests command.content side.dialogs).1
      (paid_same name pending_requests command.content))

  -- ---- CANCEL

  cancel_by : (way : CancelCase) (command : Cancel) (invite : Client)
      → IsRefusedAlone side.clients command.call_id event.id
      (cancelled_as way event command invite side.clients)
  unfolding start_command
  cancel_by (cancel.Refused refusal) command invite =
      told_alone side.clients command.call_id event.id refusal
  cancel_by cancel.Repeated command invite =
      silent side.clients command.call_id event.id
      (cancelled_as cancel.Repeated event command invite side.clients) refl
  cancel_by cancel.Waits command invite =
      silent side.clients command.call_id event.id
      (cancelled_as cancel.Waits event command invite side.clients) refl
  cancel_by cancel.Starts command invite =
      silent side.clients command.call_id event.id
      (cancelled_as cancel.Starts event command invite side.clients) refl

  cancel_found : (command : Cancel) (invite : Option Client)
      → IsRefusedAlone side.clients command.call_id event.id
      (cancelled_of invite event command side.clients)
  cancel_found command None =
      told_alone side.clients command.call_id event.id NoSuchRequest
  cancel_found command (Some invite) = cancel_by (cancel_case invite) command invite

  pub cancel_alone : (command : Cancel) → Lonely command.call_id (cancel_by_user event command side)
  cancel_alone command some =
      let alone = cancel_found command (client_at command.id side.clients) some in (
        alone.0,
        ap (λ (after : Clients × List CallOut).
            (record side { clients = after.0 }, after.1)) alone.1,
      )
