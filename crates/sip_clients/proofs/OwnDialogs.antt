-- A held dialog keeps its own Call-ID; the requests that are sent in it and its end have it too.
use Rattle.std.proofs.Common.{◌≡◌, ℕ, ◌+◌, Bool, true, false, cond, List, [], refl, sym, ap, subst, ◌∙◌}
use Rattle.std.specs.Prelude.{Option, None, Some, IfSome, codes}
use Rattle.std.specs.Str.{bytes_eq}
use Rattle.sip_message.specs.Content.{Content, with_content_of}
use Rattle.keyed_machine.proofs.Ordered.{by_bool}
use Rattle.sip_message.specs.declared.message.Message.{Message}
use Rattle.sip_message.specs.declared.rack.RAck.{RAck}
use Rattle.sip_dialog.specs.declared.dialog.Dialog.{Dialog}
use Rattle.sip_dialog.specs.declared.fault.DialogFault.{DialogFault}
use Rattle.sip_dialog.specs.Fault.{ack_fault, request_fault}
use Rattle.sip_dialog.specs.Request.{bare_request_in}
use Rattle.sip_user.specs.declared.command.DialogRequest.{DialogRequest}
use Rattle.sip_held_dialogs.specs.declared.pending_request.PendingRequest.{PendingRequest}
use Rattle.sip_held_dialogs.specs.declared.pending_request.PendingRequest.TheVariants.{Ack, Prack}
use Rattle.sip_held_dialogs.specs.declared.held_dialog.DialogId.{DialogId}
use Rattle.sip_held_dialogs.specs.declared.held_dialog.HeldDialog.{HeldDialog}
use Rattle.sip_user.specs.declared.item.CallOut.{CallOut}
use Rattle.sip_user.specs.declared.refusal.Refusal.TheVariants.{NoSuchDialog}
use Rattle.sip_held_dialogs.specs.Dialogs.{dialog_at, early_ended, ended_at, is_dialog_id, lives, Dialogs}
use Rattle.sip_held_dialogs.proofs.Each.{both, each_set}
use Rattle.sip_held_dialogs.proofs.OwnDialogs.{AreEndedOf, dialog_own, early_own, ended_own, lived_keeps}
use Rattle.sip_clients.specs.declared.client.RequestKind.{RequestKind}
use Rattle.sip_clients.specs.declared.client.RequestKind.TheVariants.{InitialInvite, ReInvite, InDialog, OutOfDialog}
use Rattle.sip_clients.specs.declared.client.Client.{Client}
use Rattle.sip_clients.specs.declared.event.Event.{Event}
use Rattle.sip_clients.specs.declared.reply.ReceivedResponse.{ReceivedResponse}
use Rattle.sip_clients.specs.declared.send_outcome.OutgoingRequest.{OutgoingRequest}
use Rattle.sip_clients.specs.declared.send_outcome.SendOutcome.{SendOutcome}
use Rattle.sip_clients.specs.declared.send_outcome.SendOutcome.TheVariants.{Sent, Waits, Refused}
use Rattle.sip_clients.specs.Commands.{bye_ended, request_in_held, requested_at}
use Rattle.sip_clients.specs.Pending.{dropped_if_sent, kept_unless_sent, kept_pending, sent_pending}
use Rattle.sip_clients.specs.Dialogs.{accepted, ended_with, dialog_for_provisional, own_ended, paid_at, served_at}
use Rattle.sip_clients.specs.Happenings.{success_brings}
use Rattle.sip_clients.proofs.ReplyDialogs.{success_keeps}
use Rattle.sip_clients.proofs.Served.{bad_request, good_request, is_bad, served_in}
use Rattle.sip_clients.specs.Event.{branch_of}
use Rattle.sip_clients.specs.OwnCall.{AreDialogsOf, IsDialogOf, IsNoticeOf, IsRequestOf}
use Rattle.sip_clients.specs.Replied.{heard_first}
use Rattle.sip_clients.specs.SendOutcome.{Outcome, acked, happens_by_sending, requested, discharged, outcome_by}

pub content_kept : (message : Message) (content : Content)
    → (with_content_of message content).call_id ≡ message.call_id
unfolding with_content_of
content_kept message content = refl

module _ (call_id : List ℕ) where
  -- ---- what a step makes

  -- a request to send
  abbrev pub IsServiceOf : SendOutcome → Type 0
  IsServiceOf (Sent sending) = sending.message.call_id ≡ call_id
  IsServiceOf Waits = Unit {0}
  IsServiceOf (Refused refusal) = Unit {0}

  -- a dialog, and the request to send in it
  abbrev pub IsOutcomeOf : Outcome → Type 0
  IsOutcomeOf done = IsDialogOf call_id done.0 × IsServiceOf done.1

  -- ---- what is sent in a dialog

  service_own : (fault : Option DialogFault) (sending : OutgoingRequest)
      → sending.message.call_id ≡ call_id → IsServiceOf (outcome_by fault sending)
  service_own None sending own = own
  service_own (Some fault) sending own = tt

  requested_own : (event : Event) (method : List ℕ) (rack : Option RAck) (content : Content)
      (held : HeldDialog) → IsDialogOf call_id held
      → IsOutcomeOf (requested event method rack content held)
  requested_own event method rack content held own = (
    lived_keeps held.dialog (happens_by_sending method (request_fault held.dialog method)) ∙ own,
    service_own (request_fault held.dialog method) _
        (content_kept (bare_request_in held.dialog method (held.dialog.local_cseq + 1)
        (branch_of event) event.local) content ∙ own),
  )

  acked_own : (event : Event) (held : HeldDialog) (number : ℕ) (content : Content)
      → IsDialogOf call_id held → IsServiceOf (acked event held number content)
  acked_own event held number content own =
      service_own (ack_fault held.dialog) _
      (content_kept (bare_request_in held.dialog (codes "ACK") number (branch_of event) event.local)
      content ∙ own)

  served_own : (event : Event) (pending : PendingRequest) (offer : Option Content)
      (held : HeldDialog)
      → IsDialogOf call_id held → IsOutcomeOf (discharged event pending offer held)
  unfolding discharged
  served_own event pending None held own = (own, tt)
  served_own event (Ack invite number) (Some content) held own =
      (own, acked_own event held number content own)
  served_own event (Prack rseq number) (Some content) held own =
      requested_own event (codes "PRACK")
      (Some record { rseq = rseq; cseq = number; method = codes "INVITE" }) content held own

  kept_own : (pending : PendingRequest) (outcome : SendOutcome) (held : HeldDialog)
      → IsDialogOf call_id held
      → IsDialogOf call_id (kept_unless_sent pending outcome held)
  kept_own pending (Sent sending) held own = own
  kept_own pending Waits held own = own
  kept_own pending (Refused refusal) held own = own

  pub owed_own : (event : Event) (pending : PendingRequest) (offer : Option Content)
      (held : HeldDialog)
      → IsDialogOf call_id held → IsOutcomeOf (kept_pending event pending offer held)
  unfolding kept_pending
  owed_own event pending offer held own =
      let done = discharged event pending offer held in
      let so = served_own event pending offer held own in
      (kept_own pending done.1 done.0 so.0, so.1)

  dropped_own : (pending : PendingRequest) (outcome : SendOutcome) (held : HeldDialog)
      → IsDialogOf call_id held
      → IsDialogOf call_id (dropped_if_sent pending outcome held)
  dropped_own pending (Sent sending) held own = own
  dropped_own pending Waits held own = own
  dropped_own pending (Refused refusal) held own = own

  debt_paid_own : (event : Event) (pending : PendingRequest) (content : Content) (held : HeldDialog)
      → IsDialogOf call_id held → IsOutcomeOf (sent_pending event pending content held)
  unfolding sent_pending
  debt_paid_own event pending content held own =
      let done = discharged event pending (Some content) held in
      let so = served_own event pending (Some content) held own in
      (dropped_own pending done.1 done.0 so.0, so.1)

  request_own : (event : Event) (method : List ℕ) (content : Content) (held : HeldDialog)
      → IsDialogOf call_id held → IsOutcomeOf (request_in_held event method content held)
  request_own event method content held own =
      by_bool (is_bad event method content held)
      (λ bad. subst IsOutcomeOf (sym (bad_request event method content held bad)) (own, tt))
      (λ good. subst IsOutcomeOf (sym (good_request event method content held good))
      (requested_own event method None content held own))

  served_at_own : (name : DialogId) (serve : HeldDialog → Outcome) (otherwise : SendOutcome)
      → ((held : HeldDialog) → IsDialogOf call_id held → IsOutcomeOf (serve held))
      → IsServiceOf otherwise → (dialogs : Dialogs) → AreDialogsOf call_id dialogs
      → AreDialogsOf call_id (served_at name serve otherwise dialogs).0
      × IsServiceOf (served_at name serve otherwise dialogs).1
  served_at_own name serve otherwise serves other dialogs own =
      by_found (dialog_at name dialogs) (dialog_own call_id name dialogs own)
    where
      by_found : (found : Option HeldDialog) → IfSome found (IsDialogOf call_id)
          → AreDialogsOf call_id (served_in name serve otherwise dialogs found).0
          × IsServiceOf (served_in name serve otherwise dialogs found).1
      by_found None its = (own, other)
      by_found (Some held) its = (
        each_set (IsDialogOf call_id) (is_dialog_id name) dialogs (serve held).0
            (serves held its).0 own,
        (serves held its).1,
      )

  pub paid_own : (name : DialogId) (event : Event) (pending : PendingRequest) (content : Content)
      (dialogs : Dialogs) → AreDialogsOf call_id dialogs
      → AreDialogsOf call_id (paid_at name event pending content dialogs).0
      × IsServiceOf (paid_at name event pending content dialogs).1
  paid_own name event pending content dialogs own =
      served_at_own name (sent_pending event pending content) Waits (debt_paid_own event pending content) tt
      dialogs own

  pub requested_at_own : (name : DialogId) (event : Event) (command : DialogRequest)
      (dialogs : Dialogs) → AreDialogsOf call_id dialogs
      → AreDialogsOf call_id (requested_at name event command dialogs).0
      × IsServiceOf (requested_at name event command dialogs).1
  unfolding requested_at
  requested_at_own name event command dialogs own =
      served_at_own name (request_in_held event command.method command.content)
      (Refused NoSuchDialog) (request_own event command.method command.content) tt dialogs own

  -- ---- what ends

  ended_or_not : (b : Bool) (name : DialogId) (dialogs : Dialogs)
      → AreDialogsOf call_id dialogs
      → AreEndedOf call_id
      (cond {A = Dialogs × List CallOut} b (ended_at name dialogs) (dialogs, []))
  ended_or_not true name dialogs own = ended_own call_id name dialogs own
  ended_or_not false name dialogs own = (own, tt)

  own_ended_own : (kind : RequestKind) (ends : Bool) (dialogs : Dialogs)
      → AreDialogsOf call_id dialogs → AreEndedOf call_id (own_ended kind ends dialogs)
  own_ended_own InitialInvite ends dialogs own = (own, tt)
  own_ended_own (ReInvite life) true dialogs own =
      ended_or_not (lives dialogs life) life.name dialogs own
  own_ended_own (ReInvite life) false dialogs own = (own, tt)
  own_ended_own (InDialog life) true dialogs own =
      ended_or_not (lives dialogs life) life.name dialogs own
  own_ended_own (InDialog life) false dialogs own = (own, tt)
  own_ended_own OutOfDialog ends dialogs own = (own, tt)

  pub ended_with_own : (client : Client) (ends : Bool) (dialogs : Dialogs)
      → AreDialogsOf call_id dialogs → AreEndedOf call_id (ended_with client ends dialogs)
  ended_with_own client ends dialogs own =
      let early = early_ended client.id dialogs in
      let first = early_own call_id client.id dialogs own in
      let last = own_ended_own client.kind ends early.0 first.0 in (
        last.0,
        both (IsNoticeOf call_id) early.1 (own_ended client.kind ends early.0).1
            first.1 last.1,
      )

  pub bye_own : (name : DialogId) (method : List ℕ) (outcome : SendOutcome) (dialogs : Dialogs)
      → AreDialogsOf call_id dialogs → AreEndedOf call_id (bye_ended name method outcome dialogs)
  bye_own name method (Sent sending) dialogs own =
      ended_or_not (bytes_eq method (codes "BYE")) name dialogs own
  bye_own name method Waits dialogs own = (own, tt)
  bye_own name method (Refused refusal) dialogs own = (own, tt)

  -- ---- what a response makes

  pub accepted_own : (client : Client) (answer : ReceivedResponse) (found : Option HeldDialog)
      → IsRequestOf call_id client → IfSome found (IsDialogOf call_id)
      → IsDialogOf call_id (accepted client answer found)
  accepted_own client answer None its own = its
  accepted_own client answer (Some held) its own =
      let kept = success_keeps client.kind answer.response held in
      ap (λ (dialog : Dialog). dialog.call_id) kept.2.1
      ∙ lived_keeps held.dialog (success_brings client.kind answer.response held) ∙ own

  pub opened_own : (client : Client) (answer : ReceivedResponse) (found : Option HeldDialog)
      → IsRequestOf call_id client → IfSome found (IsDialogOf call_id)
      → IsDialogOf call_id (dialog_for_provisional client answer found)
  opened_own client answer None its own = its
  opened_own client answer (Some held) its own = own

  pub heard_own : (kind : RequestKind) (rseq : ℕ) (held : HeldDialog) → IsDialogOf call_id held
      → IsDialogOf call_id (heard_first kind rseq held)
  heard_own InitialInvite rseq held own = own
  heard_own (ReInvite life) rseq held own = own
  heard_own (InDialog life) rseq held own = own
  heard_own OutOfDialog rseq held own = own
