-- What the client side sends in a dialog, and the ends of dialogs, are what happens in them.
use Rattle.std.proofs.Common.{ℕ, Bool, true, false, not, cond, List, [], refl, sym, subst}
use Rattle.std.specs.Prelude.{Option, None, Some, codes, filter, fold}
use Rattle.sip_message.specs.Content.{Content}
use Rattle.sip_dialog.specs.declared.dialog.Dialog.{Dialog}
use Rattle.sip_dialog.specs.declared.fault.DialogFault.{DialogFault}
use Rattle.sip_dialog.specs.Fault.{request_fault}
use Rattle.sip_held_dialogs.specs.declared.pending_request.PendingRequest.{PendingRequest}
use Rattle.sip_held_dialogs.specs.declared.pending_request.PendingRequest.TheVariants.{Ack, Prack}
use Rattle.sip_held_dialogs.specs.declared.held_dialog.DialogId.{DialogId}
use Rattle.sip_held_dialogs.specs.declared.held_dialog.HeldDialog.{HeldDialog}
use Rattle.sip_user.specs.declared.item.CallOut.{CallOut}
use Rattle.sip_held_dialogs.specs.Dialogs.{ended_at, happened, is_early_of, lives, Dialogs}
use Rattle.sip_held_dialogs.specs.Sent.{requests_made}
use Rattle.sip_clients.specs.declared.client.RequestKind.{RequestKind}
use Rattle.sip_clients.specs.declared.client.RequestKind.TheVariants.{InitialInvite, ReInvite, InDialog, OutOfDialog}
use Rattle.sip_clients.specs.declared.client.Client.{Client}
use Rattle.sip_clients.specs.declared.event.Event.{Event}
use Rattle.sip_clients.specs.declared.send_outcome.SendOutcome.{SendOutcome}
use Rattle.sip_clients.specs.declared.send_outcome.SendOutcome.TheVariants.{Sent, Waits, Refused}
use Rattle.sip_user.specs.declared.refusal.Refusal.{Refusal as ARefusal}
use Rattle.sip_user.specs.Refusal.{first_refusal}
use Rattle.sip_clients.specs.Commands.{bye_ended, request_in_held, request_refusals, sent_unless}
use Rattle.sip_clients.specs.Pending.{dropped_if_sent, kept_unless_sent, kept_pending, sent_pending}
use Rattle.sip_clients.specs.Dialogs.{ended_with, own_ended, served_at}
use Rattle.sip_clients.specs.SendOutcome.{Outcome, discharged, sending_in, happens_by_sending}
use Rattle.sip_held_dialogs.proofs.Heard.{AreApart, Grows, Keeps, Leads, Life, in_one, keeps_same, keeps_then, leads_changed, leads_filtered, leads_removed, leads_same, leads_then, quiet}
use Rattle.sip_clients.proofs.SentIn.{asks, discharge_life, request_life, unless_refused}
use Rattle.sip_clients.proofs.Served.{served_dialogs}

-- ---- what is sent in a dialog or owed

-- the requests that a dialog doesn't refuse are made in it
sends_made : (method : List ℕ) (fault : Option DialogFault) (dialog : Dialog)
    → Grows dialog (requests_made (asks method fault dialog))
    (fold happened dialog (happens_by_sending method fault))
sends_made method None dialog = ((tt, tt), refl)
sends_made method (Some fault) dialog = (tt, refl)

discharged_keeps : (event : Event) (pending : PendingRequest) (offer : Option Content)
    (held : HeldDialog)
    → Keeps None (discharge_life pending offer held.dialog) held
    (discharged event pending offer held).0
unfolding discharged
discharged_keeps event (Ack invite number) None held = keeps_same held
discharged_keeps event (Prack rseq number) None held = keeps_same held
discharged_keeps event (Ack invite number) (Some content) held = keeps_same held
discharged_keeps event (Prack rseq number) (Some content) held =
    let fault = request_fault held.dialog (codes "PRACK") in
    (refl, refl, sends_made (codes "PRACK") fault held.dialog)

unless_sent_keeps : (pending : PendingRequest) (outcome : SendOutcome) (held : HeldDialog)
    → Keeps None [] held (kept_unless_sent pending outcome held)
unless_sent_keeps pending (Sent sending) held = keeps_same held
unless_sent_keeps pending Waits held = (refl, refl, (tt, refl))
unless_sent_keeps pending (Refused refusal) held = (refl, refl, (tt, refl))

if_sent_keeps : (pending : PendingRequest) (outcome : SendOutcome) (held : HeldDialog)
    → Keeps None [] held (dropped_if_sent pending outcome held)
if_sent_keeps pending (Sent sending) held = (refl, refl, (tt, refl))
if_sent_keeps pending Waits held = keeps_same held
if_sent_keeps pending (Refused refusal) held = keeps_same held

pub owed_keeps : (event : Event) (pending : PendingRequest) (offer : Option Content)
    (held : HeldDialog)
    → Keeps None (discharge_life pending offer held.dialog) held
    (kept_pending event pending offer held).0
unfolding kept_pending
owed_keeps event pending offer held =
    let done = discharged event pending offer held in
    keeps_then None (discharge_life pending offer held.dialog) held done.0
    (kept_unless_sent pending done.1 done.0)
    (discharged_keeps event pending offer held) (unless_sent_keeps pending done.1 done.0)

pub paid_keeps : (event : Event) (pending : PendingRequest) (content : Content) (held : HeldDialog)
    → Keeps None (discharge_life pending (Some content) held.dialog) held
    (sent_pending event pending content held).0
unfolding sent_pending
paid_keeps event pending content held =
    let done = discharged event pending (Some content) held in
    keeps_then None (discharge_life pending (Some content) held.dialog) held done.0
    (dropped_if_sent pending done.1 done.0)
    (discharged_keeps event pending (Some content) held) (if_sent_keeps pending done.1 done.0)

pub request_keeps : (event : Event) (method : List ℕ) (content : Content) (held : HeldDialog)
    → Keeps None (request_life method held.dialog) held
    (request_in_held event method content held).0
unfolding request_in_held
request_keeps event method content held =
    unless (first_refusal (request_refusals held.dialog method) None)
  where
    unless : (refusal : Option ARefusal)
        → Keeps None (requests_made (unless_refused refusal method held.dialog)) held
        (sent_unless refusal (sending_in event method None content held) held).0
    unless None = (refl, refl, ((tt, tt), refl))
    unless (Some refusal) = keeps_same held

pub served_leads : (name : DialogId) (serve : HeldDialog → Outcome) (otherwise : SendOutcome)
    (life : Life) → ((held : HeldDialog) → Keeps None (life held) held (serve held).0)
    → (dialogs : Dialogs) → AreApart dialogs
    → Leads (in_one name life) dialogs (served_at name serve otherwise dialogs).0
served_leads name serve otherwise life keeps dialogs apart =
    subst (Leads (in_one name life) dialogs) (sym (served_dialogs name serve otherwise dialogs))
    (leads_changed name (λ held. (serve held).0) life keeps dialogs apart)

-- ---- what ends dialogs

removed_or_same : (b : Bool) (name : DialogId) (dialogs : Dialogs) → AreApart dialogs
    → Leads quiet dialogs (cond {A = Dialogs × List CallOut} b (ended_at name dialogs)
    (dialogs, [])).0
removed_or_same true name dialogs apart = leads_removed name dialogs apart
removed_or_same false name dialogs apart = leads_same dialogs apart

own_leads : (kind : RequestKind) (ends : Bool) (dialogs : Dialogs) → AreApart dialogs
    → Leads quiet dialogs (own_ended kind ends dialogs).0
own_leads InitialInvite ends dialogs apart = leads_same dialogs apart
own_leads (ReInvite life) true dialogs apart =
    removed_or_same (lives dialogs life) life.name dialogs apart
own_leads (ReInvite life) false dialogs apart = leads_same dialogs apart
own_leads (InDialog life) true dialogs apart =
    removed_or_same (lives dialogs life) life.name dialogs apart
own_leads (InDialog life) false dialogs apart = leads_same dialogs apart
own_leads OutOfDialog ends dialogs apart = leads_same dialogs apart

pub ended_leads : (client : Client) (ends : Bool) (dialogs : Dialogs) → AreApart dialogs
    → Leads quiet dialogs (ended_with client ends dialogs).0
ended_leads client ends dialogs apart =
    let left : Dialogs = filter (λ entry. not (is_early_of client.id entry.1)) dialogs in
    leads_then quiet dialogs left (own_ended client.kind ends left).0
    (leads_filtered (λ held. not (is_early_of client.id held)) dialogs apart)
    (own_leads client.kind ends left)

pub bye_leads : (name : DialogId) (method : List ℕ) (outcome : SendOutcome) (dialogs : Dialogs)
    → AreApart dialogs → Leads quiet dialogs (bye_ended name method outcome dialogs).0
bye_leads name method (Sent sending) dialogs apart = removed_or_same _ name dialogs apart
bye_leads name method Waits dialogs apart = leads_same dialogs apart
bye_leads name method (Refused refusal) dialogs apart = leads_same dialogs apart
