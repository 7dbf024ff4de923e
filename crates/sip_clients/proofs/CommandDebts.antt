-- After a command of the user the same is owed in the dialog of each name as before, but for what
-- the command sends.
use Rattle.std.proofs.Common.{◌≡◌, ℕ, Bool, true, false, ◌&&◌, cond, List, ◌++◌, refl, sym, ap, subst, ◌∙◌}
use Rattle.std.specs.Prelude.{Option, None, Some, Err, find, if◌then◌else◌}
use Rattle.std.specs.List.{list_any}
use Rattle.std.specs.Option.{option_map, option_map_or}
use Rattle.sip_message.specs.Content.{Content}
use Rattle.sip_user.specs.declared.command.DialogBody.{DialogBody}
use Rattle.sip_user.specs.declared.command.DialogRequest.{DialogRequest}
use Rattle.sip_held_dialogs.specs.declared.pending_request.PendingRequest.{PendingRequest}
use Rattle.sip_held_dialogs.specs.declared.pending_request.PendingRequest.TheVariants.{Ack, Prack}
use Rattle.sip_held_dialogs.specs.declared.held_dialog.DialogId.{DialogId}
use Rattle.sip_held_dialogs.specs.declared.held_dialog.HeldDialog.{HeldDialog}
use Rattle.sip_user.specs.declared.item.CallOut.{CallOut}
use Rattle.sip_user.specs.declared.refusal.Refusal.{Refusal}
use Rattle.sip_user.specs.declared.refusal.Refusal.TheVariants.{NoSuchDialog}
use Rattle.sip_held_dialogs.specs.Dialogs.{Dialogs, dialog_at, is_dialog_id}
use Rattle.sip_user.specs.Notices.{refused}
use Rattle.sip_user.specs.Refusal.{first_refusal}
use Rattle.sip_held_dialogs.proofs.Entries as entries
use Rattle.sip_held_dialogs.proofs.Heard.{AreApart, name_laws}
use Rattle.sip_held_dialogs.proofs.Owing.{OweSame, OwesStill, changed_same, same_then, still_as, still_same, unchanged}
use Rattle.sip_clients.specs.declared.pending.PendingKind.{PendingKind}
use Rattle.sip_clients.specs.declared.pending.PendingKind.TheVariants as kind
use Rattle.sip_clients.specs.declared.event.Event.{Event}
use Rattle.sip_clients.specs.declared.send_outcome.SendOutcome.TheVariants.{Waits, Refused}
use Rattle.sip_clients.specs.Client.{Side, ClientTaken}
use Rattle.sip_clients.specs.Clients.{ack_paid, ack_by_user, paid_or_refused, prack_paid, prack_by_user, request_by_user, settled}
use Rattle.sip_clients.specs.Commands.{bye_ended, debt_or_refusal, name_in, nothing_pending, oldest_pending, request_in_held, request_refusals, requested_at, sent_unless}
use Rattle.sip_clients.specs.Pending.{is_of, sent_pending}
use Rattle.sip_clients.specs.Dialogs.{paid_at}
use Rattle.sip_clients.specs.Outputs.{ack_said, request_said}
use Rattle.sip_clients.specs.Owing.{command_pays, goes_out, is_of_prack, oldest_paid}
use Rattle.sip_clients.specs.SendOutcome.{sending_in}
use Rattle.sip_clients.proofs.CommandDialogs.{request_keeps, served_leads}
use Rattle.sip_clients.proofs.DialogSends.{AreNamed, after_silent}
use Rattle.sip_clients.proofs.DialogDebts.{neither_way, bye_same, goes, all_but, paid_drops, ack_goes, prack_pays}
use Rattle.sip_clients.proofs.WithoutStarts.{none_started, request_said_quiet}
use Rattle.sip_clients.proofs.SentIn.{request_life, said_sent, service_cseqs}
use Rattle.sip_clients.proofs.Served.{served_dialogs, served_in, found_passes}

-- ---- a request in a dialog

request_kept : (event : Event) (method : List ℕ) (content : Content) (held : HeldDialog)
    → OwesStill unchanged (Some held) (Some (request_in_held event method content held).0)
unfolding request_in_held
request_kept event method content held =
    unless (first_refusal (request_refusals held.dialog method) None)
  where
    unless : (refusal : Option Refusal) → OwesStill unchanged (Some held)
        (Some (sent_unless refusal (sending_in event method None content held) held).0)
    unless None = (refl, refl)
    unless (Some refusal) = (refl, refl)

pub request_owes : (event : Event) (command : DialogRequest) (side : Side) → AreApart side.dialogs
    → OweSame side.dialogs ((request_by_user event command side).0).dialogs
unfolding requested_at
request_owes event command side apart =
    let name = name_in command.local_tag command.remote_tag in
    let serve = request_in_held event command.method command.content in
    let done = requested_at name event command side.dialogs in
    let leads = served_leads name serve (Refused NoSuchDialog)
    (λ held. request_life command.method held.dialog)
    (request_keeps event command.method command.content) side.dialogs apart in
    same_then side.dialogs done.0 (bye_ended name command.method done.1 done.0).0
    (subst (OweSame side.dialogs)
    (sym (served_dialogs name serve (Refused NoSuchDialog) side.dialogs))
    (changed_same name (λ held. (serve held).0) (request_kept event command.method command.content)
    side.dialogs))
    (bye_same name command.method done.1 done.0 leads.apart)

-- ---- the commands Ack and Prack

module _ (event : Event) (command : DialogBody) (side : Side) where
  abbrev asked_name : DialogId
  asked_name = name_in command.local_tag command.remote_tag

  -- the dialog after the user gave this
  abbrev paid_of : PendingRequest → HeldDialog → HeldDialog
  paid_of pending held = (sent_pending event pending command.content held).0

  -- in the dialog of each name
  abbrev Pays : PendingKind → List CallOut → Dialogs → Type 0
  Pays kind outs after = (name : DialogId)
      → OwesStill (command_pays kind command name outs) (dialog_at name side.dialogs)
      (dialog_at name after)

  nothing_paid : (kind : PendingKind) (outs : List CallOut)
      → ((name : DialogId) → goes_out kind name outs ≡ false) → Pays kind outs side.dialogs
  nothing_paid kind outs none name =
      let held = dialog_at name side.dialogs in
      still_as unchanged (command_pays kind command name outs) held held
      (λ pending_requests. sym (ap (λ b. if is_dialog_id asked_name name
      && b then oldest_paid kind pending_requests
      else pending_requests) (none name)
      ∙ neither_way (is_dialog_id asked_name name) (oldest_paid kind pending_requests)
      pending_requests)) (still_same held)

  refused_pays : (kind : PendingKind) (refusal : Refusal)
      → Pays kind (refused event.id command.call_id refusal) side.dialogs
  refused_pays kind.Ack refusal =
      nothing_paid kind.Ack (refused event.id command.call_id refusal) (λ name. refl)
  refused_pays kind.Prack refusal =
      nothing_paid kind.Prack (refused event.id command.call_id refusal) (λ name. refl)

  debt_paid : (kind : PendingKind) (pending : PendingRequest) (held : HeldDialog)
      (outs : List CallOut)
      → dialog_at asked_name side.dialogs ≡ Some held → find (is_of kind) held.pending_requests
      ≡ Some pending
      → ((name : DialogId) → is_dialog_id asked_name name ≡ true
      → goes_out kind name outs ≡ goes (sent_pending event pending command.content held).1)
      → Pays kind outs (paid_at asked_name event pending command.content side.dialogs).0
  debt_paid kind pending held outs at oldest goes_so name =
      subst (λ after. OwesStill (command_pays kind command name outs)
      (dialog_at name side.dialogs) (dialog_at name after))
      (sym (served_dialogs asked_name (sent_pending event pending command.content) Waits side.dialogs))
      (subst (OwesStill (command_pays kind command name outs) (dialog_at name side.dialogs))
      (sym (entries.found_changed name_laws asked_name name (paid_of pending) side.dialogs))
      (by_name (is_dialog_id asked_name name) refl))
    where
      by_name : (b : Bool) → is_dialog_id asked_name name ≡ b
          → OwesStill (command_pays kind command name outs) (dialog_at name side.dialogs)
          (cond b (option_map (paid_of pending) (dialog_at name side.dialogs))
          (dialog_at name side.dialogs))
      by_name false is =
          let there = dialog_at name side.dialogs in
          still_as unchanged (command_pays kind command name outs) there there
          (λ pending_requests i. if sym is i && goes_out kind name outs then oldest_paid kind
          pending_requests
          else pending_requests) (still_same there)
      by_name true is =
          let there : dialog_at name side.dialogs ≡ Some held =
          entries.same_key name_laws asked_name name side.dialogs is ∙ at in
          let less = paid_drops event pending command.content held in
          let pays : (if goes (sent_pending event pending command.content held).1 then all_but pending
          held.pending_requests
          else held.pending_requests) ≡ command_pays kind command name outs held.pending_requests =
          sym (λ i. if is i && goes_so name is i
          then option_map_or (λ pending. all_but pending held.pending_requests) (oldest i)
          held.pending_requests
          else held.pending_requests) in
          subst (λ (o : Option HeldDialog). OwesStill (command_pays kind command name outs) o
          (option_map (paid_of pending) o)) (sym there) (less.0, less.1 ∙ pays)

  -- its outcome if the dialog is held
  served_as : (pending : PendingRequest) (held : HeldDialog) → dialog_at asked_name side.dialogs
      ≡ Some held
      → (paid_at asked_name event pending command.content side.dialogs).1
      ≡ (sent_pending event pending command.content held).1
  served_as pending held at =
      ap (λ found.
      (served_in asked_name (sent_pending event pending command.content) Waits side.dialogs found).1) at

  by_owed : (kind : PendingKind) (send_pending : PendingRequest → Side → ClientTaken)
      → ((pending : PendingRequest) (held : HeldDialog) → dialog_at asked_name side.dialogs
      ≡ Some held
      → find (is_of kind) held.pending_requests ≡ Some pending
      → Pays kind (send_pending pending side).1 ((send_pending pending side).0).dialogs)
      → (o : Option HeldDialog) → dialog_at asked_name side.dialogs ≡ o
      → let taken = paid_or_refused event command send_pending
      (option_map_or (oldest_pending kind) o (Err NoSuchDialog)) side in
      Pays kind taken.1 (taken.0).dialogs
  by_owed kind send_pending pays None at = refused_pays kind NoSuchDialog
  by_owed kind send_pending pays (Some held) at = by_oldest (find (is_of kind) held.pending_requests) refl
    where
      by_oldest : (o : Option PendingRequest) → find (is_of kind) held.pending_requests ≡ o
          → let taken = paid_or_refused event command send_pending (debt_or_refusal kind o) side in
          Pays kind taken.1 (taken.0).dialogs
      by_oldest None is = refused_pays kind (nothing_pending kind)
      by_oldest (Some pending) is = pays pending held at is

  ack_paid_off : (pending : PendingRequest) (held : HeldDialog) → dialog_at asked_name side.dialogs
      ≡ Some held
      → find (is_of kind.Ack) held.pending_requests ≡ Some pending
      → let taken = ack_paid event command asked_name pending side in
      Pays kind.Ack taken.1 (taken.0).dialogs
  ack_paid_off pending held at is =
      let outcome = (paid_at asked_name event pending command.content side.dialogs).1 in
      debt_paid kind.Ack pending held (ack_said event command.call_id outcome).0 at is
      (λ name same. ack_goes event command.call_id outcome ∙ ap goes (served_as pending held at))

  pub ack_pays : Pays kind.Ack (ack_by_user event command side).1
      ((ack_by_user event command side).0).dialogs
  ack_pays =
      by_owed kind.Ack (ack_paid event command asked_name) ack_paid_off
      (dialog_at asked_name side.dialogs) refl

  module _ (named : AreNamed side.dialogs) where
    prack_out : (pending : PendingRequest) (held : HeldDialog) → dialog_at asked_name side.dialogs
        ≡ Some held
        → is_of kind.Prack pending ≡ true → (name : DialogId) → is_dialog_id asked_name name ≡ true
        → let done = paid_at asked_name event pending command.content side.dialogs in
        let said = request_said event command.call_id asked_name done.1 in
        goes_out kind.Prack name
        (said.0 ++ (settled event event.id said.1 side.clients).1)
        ≡ goes (sent_pending event pending command.content held).1
    prack_out (Ack invite number) held at is name same = absurd cc
    prack_out (Prack rseq number) held at is name same =
        let pending = Prack rseq number in
        let outcome = (paid_at asked_name event pending command.content side.dialogs).1 in
        let said = request_said event command.call_id asked_name outcome in
        ap (list_any is_of_prack)
        (after_silent name said.0 (settled event event.id said.1 side.clients).1
        (none_started said.0 (request_said_quiet event command.call_id asked_name outcome))
        ∙ said_sent name event event.id command.call_id asked_name outcome side.clients
        ∙ ap (service_cseqs name) (served_as pending held at))
        ∙ prack_pays name asked_name event held (named asked_name held at) same rseq number
        command.content

    prack_paid_off : (pending : PendingRequest) (held : HeldDialog)
        → dialog_at asked_name side.dialogs ≡ Some held
        → find (is_of kind.Prack) held.pending_requests ≡ Some pending
        → let taken = prack_paid event command asked_name pending side in
        Pays kind.Prack taken.1 (taken.0).dialogs
    prack_paid_off pending held at is =
        let done = paid_at asked_name event pending command.content side.dialogs in
        let said = request_said event command.call_id asked_name done.1 in
        debt_paid kind.Prack pending held
        (said.0 ++ (settled event event.id said.1 side.clients).1) at is
        (prack_out pending held at (found_passes (is_of kind.Prack) held.pending_requests pending
        is))

    pub prack_pays_off : Pays kind.Prack (prack_by_user event command side).1
        ((prack_by_user event command side).0).dialogs
    prack_pays_off =
        by_owed kind.Prack (prack_paid event command asked_name) prack_paid_off
        (dialog_at asked_name side.dialogs) refl
