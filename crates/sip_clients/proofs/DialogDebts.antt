-- What is owed in one dialog and what goes out for it, and what ends dialogs on the client side.
use Rattle.std.proofs.Common.{◌≡◌, ℕ, Bool, true, false, not, ◌&&◌, cond, List, [], ◌∷◌, ◌++◌, refl, sym, ap, ◌∙◌, append-nil}
use Rattle.std.specs.Prelude.{Option, None, Some, codes, filter, if◌then◌else◌}
use Rattle.std.specs.List.{list_any}
use Rattle.sip_message.specs.Content.{Content}
use Rattle.sip_message.specs.declared.id.Id.{Id}
use Rattle.sip_message.specs.declared.message.Message.{Message}
use Rattle.sip_dialog.specs.declared.fault.DialogFault.{DialogFault}
use Rattle.sip_dialog.specs.Fault.{request_fault}
use Rattle.sip_held_dialogs.specs.declared.pending_request.PendingRequest.{PendingRequest}
use Rattle.sip_held_dialogs.specs.declared.pending_request.PendingRequest.TheVariants.{Ack, Prack}
use Rattle.sip_held_dialogs.specs.declared.held_dialog.DialogId.{DialogId}
use Rattle.sip_held_dialogs.specs.declared.held_dialog.HeldDialog.{HeldDialog}
use Rattle.sip_user.specs.declared.item.CallOut.{CallOut}
use Rattle.sip_held_dialogs.specs.Dialogs.{Dialogs, ended_at, is_early_of, is_dialog_id, lives}
use Rattle.sip_held_dialogs.specs.Sent.{name_of_dialog}
use Rattle.sip_held_dialogs.proofs.Entries as entries
use Rattle.sip_held_dialogs.proofs.Heard.{AreApart, name_laws}
use Rattle.sip_held_dialogs.proofs.Owing.{OweSame, OwesStill, filtered_same, removed_same, same_owed, same_then, unchanged}
use Rattle.sip_clients.specs.declared.client.Client.{Client}
use Rattle.sip_clients.specs.declared.client.RequestKind.{RequestKind}
use Rattle.sip_clients.specs.declared.client.RequestKind.TheVariants.{InitialInvite, ReInvite, InDialog, OutOfDialog}
use Rattle.sip_clients.specs.declared.event.Event.{Event}
use Rattle.sip_clients.specs.declared.send_outcome.OutgoingRequest.{OutgoingRequest}
use Rattle.sip_clients.specs.declared.send_outcome.SendOutcome.{SendOutcome}
use Rattle.sip_clients.specs.declared.send_outcome.SendOutcome.TheVariants.{Sent, Waits, Refused}
use Rattle.sip_clients.specs.Client.{Side}
use Rattle.sip_clients.specs.Clients.{lost_of}
use Rattle.sip_clients.specs.Commands.{bye_ended}
use Rattle.sip_clients.specs.Pending.{dropped_if_sent, is_same_pending, kept_unless_sent, kept_pending, sent_pending}
use Rattle.sip_clients.specs.Dialogs.{accepted_in, ended_with, own_ended}
use Rattle.sip_clients.specs.Outputs.{ack_said}
use Rattle.sip_clients.specs.Owing.{is_direct, is_of_prack}
use Rattle.sip_clients.specs.Replied.{heard_first}
use Rattle.sip_clients.specs.SendOutcome.{discharged, outcome_by}
use Rattle.sip_clients.proofs.SentIn.{asks, discharged_sent, service_cseqs}

pub neither_way : {X : Type 0} (b : Bool) (x y : X) → (if b && false then x else y) ≡ y
neither_way true x y = refl
neither_way false x y = refl

-- ---- what ends dialogs

either_same : (b : Bool) (name : DialogId) (dialogs : Dialogs) → AreApart dialogs
    → OweSame dialogs (cond {A = Dialogs × List CallOut} b (ended_at name dialogs) (dialogs, [])).0
either_same true name dialogs apart = removed_same name dialogs apart
either_same false name dialogs apart = same_owed dialogs

own_same : (kind : RequestKind) (ends : Bool) (dialogs : Dialogs) → AreApart dialogs
    → OweSame dialogs (own_ended kind ends dialogs).0
own_same InitialInvite ends dialogs apart = same_owed dialogs
own_same (ReInvite life) true dialogs apart =
    either_same (lives dialogs life) life.name dialogs apart
own_same (ReInvite life) false dialogs apart = same_owed dialogs
own_same (InDialog life) true dialogs apart =
    either_same (lives dialogs life) life.name dialogs apart
own_same (InDialog life) false dialogs apart = same_owed dialogs
own_same OutOfDialog ends dialogs apart = same_owed dialogs

pub ended_same : (client : Client) (ends : Bool) (dialogs : Dialogs) → AreApart dialogs
    → OweSame dialogs (ended_with client ends dialogs).0
ended_same client ends dialogs apart =
    let left : Dialogs = filter (λ entry. not (is_early_of client.id entry.1)) dialogs in
    same_then dialogs left (own_ended client.kind ends left).0
    (filtered_same (λ held. not (is_early_of client.id held)) dialogs apart)
    (own_same client.kind ends left (entries.apart_filtered name_laws
    (λ entry. not (is_early_of client.id entry.1)) dialogs apart))

pub bye_same : (name : DialogId) (method : List ℕ) (outcome : SendOutcome) (dialogs : Dialogs)
    → AreApart dialogs → OweSame dialogs (bye_ended name method outcome dialogs).0
bye_same name method (Sent sending) dialogs apart = either_same _ name dialogs apart
bye_same name method Waits dialogs apart = same_owed dialogs
bye_same name method (Refused refusal) dialogs apart = same_owed dialogs

pub lost_owes : (id : Id) (timed_out : Bool) (o : Option Client) (side : Side)
    → AreApart side.dialogs → OweSame side.dialogs ((lost_of id timed_out o side).0).dialogs
lost_owes id timed_out None side apart = same_owed side.dialogs
lost_owes id timed_out (Some client) side apart = ended_same client timed_out side.dialogs apart

-- ---- what is owed and sent in one dialog

-- the request goes out
abbrev pub goes : SendOutcome → Bool
goes (Sent sending) = true
goes Waits = false
goes (Refused refusal) = false

abbrev pub unless_out : Bool → PendingRequest → List PendingRequest
unless_out out pending = if not out then pending ∷ [] else []

discharged_kept : (event : Event) (pending : PendingRequest) (offer : Option Content)
    (held : HeldDialog)
    → OwesStill unchanged (Some held) (Some (discharged event pending offer held).0)
unfolding discharged
discharged_kept event (Ack invite number) None held = (refl, refl)
discharged_kept event (Prack rseq number) None held = (refl, refl)
discharged_kept event (Ack invite number) (Some content) held = (refl, refl)
discharged_kept event (Prack rseq number) (Some content) held = (refl, refl)

kept_adds : (pending : PendingRequest) (outcome : SendOutcome) (held : HeldDialog)
    → OwesStill (λ pending_requests. pending_requests ++ unless_out (goes outcome) pending)
    (Some held)
    (Some (kept_unless_sent pending outcome held))
kept_adds pending (Sent sending) held = (refl, sym (append-nil held.pending_requests))
kept_adds pending Waits held = (refl, refl)
kept_adds pending (Refused refusal) held = (refl, refl)

abbrev pub all_but : PendingRequest → List PendingRequest → List PendingRequest
all_but pending pending_requests =
    filter (λ other. not (is_same_pending pending other)) pending_requests

drops : (pending : PendingRequest) (outcome : SendOutcome) (held : HeldDialog)
    → OwesStill (λ pending_requests. if goes outcome then all_but pending pending_requests else
    pending_requests) (Some held)
    (Some (dropped_if_sent pending outcome held))
drops pending (Sent sending) held = (refl, refl)
drops pending Waits held = (refl, refl)
drops pending (Refused refusal) held = (refl, refl)

pub owed_adds : (event : Event) (pending : PendingRequest) (offer : Option Content)
    (held : HeldDialog)
    → OwesStill (λ pending_requests. pending_requests
    ++ unless_out (goes (kept_pending event pending offer held).1) pending)
    (Some held) (Some (kept_pending event pending offer held).0)
unfolding kept_pending
owed_adds event pending offer held =
    let done = discharged event pending offer held in
    let kept = discharged_kept event pending offer held in
    let adds = kept_adds pending done.1 done.0 in (
      adds.0 ∙ kept.0,
      adds.1 ∙ ap (λ pending_requests. pending_requests
          ++ unless_out (goes done.1) pending) kept.1,
    )

pub paid_drops : (event : Event) (pending : PendingRequest) (content : Content) (held : HeldDialog)
    → OwesStill
    (λ pending_requests. if goes (sent_pending event pending content held).1 then all_but pending
    pending_requests else pending_requests)
    (Some held) (Some (sent_pending event pending content held).0)
unfolding sent_pending
paid_drops event pending content held =
    let done = discharged event pending (Some content) held in
    let kept = discharged_kept event pending (Some content) held in
    let less = drops pending done.1 done.0 in (
      less.0 ∙ kept.0,
      less.1 ∙ ap (λ pending_requests. if goes done.1 then all_but pending pending_requests else
          pending_requests) kept.1,
    )

pub heard_kept : (kind : RequestKind) (number : ℕ) (held : HeldDialog)
    → OwesStill unchanged (Some held) (Some (heard_first kind number held))
heard_kept InitialInvite number held = (refl, refl)
heard_kept (ReInvite life) number held = (refl, refl)
heard_kept (InDialog life) number held = (refl, refl)
heard_kept OutOfDialog number held = (refl, refl)

pub accepted_kept : (kind : RequestKind) (response : Message) (held : HeldDialog)
    → OwesStill unchanged (Some held) (Some (accepted_in kind response held))
accepted_kept InitialInvite response held = (refl, refl)
accepted_kept (ReInvite life) response held = (refl, refl)
accepted_kept (InDialog life) response held = (refl, refl)
accepted_kept OutOfDialog response held = (refl, refl)

-- ---- what goes out of it

pub ack_goes : (event : Event) (call_id : List ℕ) (outcome : SendOutcome)
    → list_any is_direct (ack_said event call_id outcome).0 ≡ goes outcome
ack_goes event call_id (Sent sending) = refl
ack_goes event call_id Waits = refl
ack_goes event call_id (Refused refusal) = refl

module _ (name own : DialogId) (event : Event) (held : HeldDialog)
    (named : is_dialog_id own (name_of_dialog held.dialog) ≡ true)
    (same : is_dialog_id own name ≡ true)
  where
    prack_discharged : (rseq number : ℕ) (offer : Option Content)
        → list_any is_of_prack
        (service_cseqs name (discharged event (Prack rseq number) offer held).1)
        ≡ goes (discharged event (Prack rseq number) offer held).1
    unfolding discharged
    prack_discharged rseq number None = refl
    prack_discharged rseq number (Some content) =
        ap (list_any is_of_prack)
        (discharged_sent name own event held named (Prack rseq number) (Some content)
        ∙ ap (λ b. cond b (asks (codes "PRACK") (request_fault held.dialog (codes "PRACK"))
        held.dialog) []) same)
        ∙ by_fault (request_fault held.dialog (codes "PRACK")) _
      where
        by_fault : (fault : Option DialogFault) (sending : OutgoingRequest)
            → list_any is_of_prack (asks (codes "PRACK") fault held.dialog)
            ≡ goes (outcome_by fault sending)
        by_fault None sending = refl
        by_fault (Some fault) sending = refl

    pub prack_owes : (rseq number : ℕ) (offer : Option Content)
        → list_any is_of_prack (service_cseqs name (kept_pending event (Prack rseq number) offer
        held).1)
        ≡ goes (kept_pending event (Prack rseq number) offer held).1
    unfolding kept_pending
    prack_owes rseq number offer = prack_discharged rseq number offer

    pub prack_pays : (rseq number : ℕ) (content : Content)
        → list_any is_of_prack (service_cseqs name (sent_pending event (Prack rseq number) content held).1)
        ≡ goes (sent_pending event (Prack rseq number) content held).1
    unfolding sent_pending
    prack_pays rseq number content = prack_discharged rseq number (Some content)
