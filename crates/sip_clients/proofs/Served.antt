-- A request to send in the dialog of a name, whether that is held or not.
use Rattle.std.proofs.Common.{◌≡◌, Bool, true, false, ◌&&◌, ◌||◌, [], ◌∷◌, List, refl, ap, ◌∙◌, sym, cond}
use Rattle.std.specs.Prelude.{Option, None, Some, if◌then◌else◌, codes, nat_le, ℕ, Result, Ok, Err, find}
use Rattle.std.specs.Map.{set_value}
use Rattle.std.specs.Option.{option_map, option_map_or}
use Rattle.std.specs.Str.{bytes_eq}
use Rattle.std.proofs.lemmas.Map.Steps.{set_value_same}
use Rattle.sip_message.specs.Content.{Content}
use Rattle.sip_dialog.specs.declared.fault.DialogFault.{DialogFault}
use Rattle.sip_dialog.specs.declared.fault.DialogFault.TheVariants as fault
use Rattle.sip_dialog.specs.Dialog.{is_early, is_ended}
use Rattle.sip_dialog.specs.Fault.{request_fault}
use Rattle.sip_dialog.specs.Route.{is_strict}
use Rattle.sip_held_dialogs.specs.Dialogs.{dialog_at, dialog_changed, is_dialog_id, lived, Dialogs}
use Rattle.sip_user.specs.Refusal.{first_refusal}
use Rattle.sip_held_dialogs.specs.declared.held_dialog.DialogId.{DialogId}
use Rattle.sip_held_dialogs.specs.declared.held_dialog.HeldDialog.{HeldDialog}
use Rattle.sip_user.specs.declared.refusal.Refusal.{Refusal}
use Rattle.sip_user.specs.declared.refusal.Refusal.TheVariants.{BadMethod, DialogEnded, StrictRoute, SequenceUsedUp}
use Rattle.sip_clients.specs.Commands.{is_bad_early, is_callee, is_own_kind, request_in_held, sent_unless}
use Rattle.sip_clients.specs.Dialogs.{served_at}
use Rattle.sip_clients.specs.SendOutcome.{Outcome, refusal_for_fault, requested, sending_in, happens_by_sending, outcome_by}
use Rattle.sip_clients.specs.declared.event.Event.{Event}
use Rattle.sip_clients.specs.declared.send_outcome.OutgoingRequest.{OutgoingRequest}
use Rattle.sip_clients.specs.declared.send_outcome.SendOutcome.{SendOutcome}
use Rattle.sip_clients.specs.declared.send_outcome.SendOutcome.TheVariants.{Refused}
use Rattle.sip_user.specs.declared.command.DialogBody.{DialogBody}
use Rattle.sip_held_dialogs.specs.declared.pending_request.PendingRequest.{PendingRequest}
use Rattle.sip_user.specs.Notices.{refused}
use Rattle.sip_clients.specs.Client.{Side, ClientTaken}
use Rattle.sip_clients.specs.Clients.{paid_or_refused}

-- ---- the commands Ack and Prack

-- what is true of a refusal, and of each ACK or PRACK that is owed, is true of the command
pub paid_either : (P : ClientTaken → Type 0) (event : Event) (command : DialogBody)
    (send_pending : PendingRequest → Side → ClientTaken) (side : Side) (o : Result PendingRequest Refusal)
    → ((refusal : Refusal) → P (side, refused event.id command.call_id refusal))
    → ((pending : PendingRequest) → P (send_pending pending side))
    → P (paid_or_refused event command send_pending o side)
paid_either P event command send_pending side (Err refusal) refuses pays = refuses refusal
paid_either P event command send_pending side (Ok pending) refuses pays = pays pending

pub found_passes : (p : PendingRequest → Bool) (pending_requests : List PendingRequest)
    (pending : PendingRequest) → find p pending_requests ≡ Some pending
    → p pending ≡ true
found_passes p [] pending is = absurd cc
found_passes p (first ∷ pending_requests) pending is =
    by_first (p first) refl is (λ later. found_passes p pending_requests pending later)
  where
    by_first : (b : Bool) → p first ≡ b → cond b (Some first) (find p pending_requests)
        ≡ Some pending
        → (find p pending_requests ≡ Some pending → p pending ≡ true) → p pending ≡ true
    by_first true passes is rest = let same : first ≡ pending = cc in ap p (sym same) ∙ passes
    by_first false fails is rest = rest is

-- ---- the dialogs after it

module _ (name : DialogId) (serve : HeldDialog → Outcome) (otherwise : SendOutcome)
    (dialogs : Dialogs) where
  abbrev pub served_in : Option HeldDialog → Dialogs × SendOutcome
  served_in found =
      option_map_or (λ held. (set_value (is_dialog_id name) dialogs (serve held).0, (serve held).1))
      found (dialogs, otherwise)

  pub served_dialogs : (served_at name serve otherwise dialogs).0
      ≡ dialog_changed name (λ held. (serve held).0) dialogs
  served_dialogs = by_found (dialog_at name dialogs)
    where
      by_found : (found : Option HeldDialog) → (served_in found).0
          ≡ option_map_or (λ held. set_value (is_dialog_id name) dialogs (serve held).0) found
          dialogs
      by_found None = refl
      by_found (Some held) = refl

  -- if a dialog that refuses doesn't change, no dialog does
  pub refused_same : (refusal : Refusal)
      → ((held : HeldDialog) → (serve held).1 ≡ Refused refusal → (serve held).0 ≡ held)
      → (served_at name serve otherwise dialogs).1 ≡ Refused refusal
      → (served_at name serve otherwise dialogs).0 ≡ dialogs
  refused_same refusal same e = by_found (dialog_at name dialogs) refl e
    where
      by_found : (found : Option HeldDialog) → dialog_at name dialogs ≡ found
          → (served_in found).1 ≡ Refused refusal → (served_in found).0 ≡ dialogs
      by_found None at is = refl
      by_found (Some held) at is =
          ap (set_value (is_dialog_id name) dialogs) (same held is)
          ∙ set_value_same (is_dialog_id name) dialogs held at

-- ---- why a request isn't sent

bad_method : (own early bad : Bool) (others : List (Bool × Refusal))
    → (own || (early && bad)) ≡ true
    → first_refusal ((own, BadMethod) ∷ (early && bad, BadMethod) ∷ others) None ≡ Some BadMethod
bad_method true early bad others is = refl
bad_method false true true others is = refl
bad_method false true false others is = absurd cc
bad_method false false bad others is = absurd cc

by_dialog : (own early invite bye ended strict used : Bool)
    → (own || (early && (invite || bye))) ≡ false
    → first_refusal ((own, BadMethod) ∷ (early && (invite || bye), BadMethod)
    ∷ (ended, DialogEnded) ∷ (strict, StrictRoute) ∷ (used, SequenceUsedUp) ∷ []) None
    ≡ option_map refusal_for_fault (if ended then Some fault.Ended
    else (if early && invite then Some fault.NotConfirmed
    else (if strict then Some fault.StrictRoute
    else (if used then Some fault.SequenceUsedUp
    else None))))
by_dialog true early invite bye ended strict used is = absurd cc
by_dialog false true true bye ended strict used is = absurd cc
by_dialog false true false true ended strict used is = absurd cc
by_dialog false true false false true strict used is = refl
by_dialog false true false false false true used is = refl
by_dialog false true false false false false true is = refl
by_dialog false true false false false false false is = refl
by_dialog false false invite bye true strict used is = refl
by_dialog false false invite bye false true used is = refl
by_dialog false false invite bye false false true is = refl
by_dialog false false invite bye false false false is = refl

sent_by : (method : List ℕ) (fault : Option DialogFault) (sending : OutgoingRequest)
    (held : HeldDialog)
    → sent_unless (option_map refusal_for_fault fault) sending held
    ≡ (lived (happens_by_sending method fault) held, outcome_by fault sending)
sent_by method None sending held = refl
sent_by method (Some fault) sending held = refl

module _ (event : Event) (method : List ℕ) (content : Content) (held : HeldDialog) where
  -- the user can't send its method in this dialog
  abbrev pub is_bad : Bool
  is_bad = is_own_kind method
      || (is_early (held.dialog).state && is_bad_early (held.dialog).side method)

  pub bad_request : is_bad ≡ true → request_in_held event method content held
      ≡ (held, Refused BadMethod)
  unfolding request_in_held
  bad_request is =
      ap (λ refusal. sent_unless refusal (sending_in event method None content held) held)
      (bad_method (is_own_kind method) (is_early (held.dialog).state)
      (is_bad_early (held.dialog).side method)
      ((is_ended (held.dialog).state, DialogEnded)
      ∷ (is_strict (held.dialog).route_set, StrictRoute)
      ∷ (nat_le 2147483647 (held.dialog).local_cseq, SequenceUsedUp) ∷ []) is)

  -- otherwise the dialog says whether it is sent
  pub good_request : is_bad ≡ false
      → request_in_held event method content held ≡ requested event method None content held
  unfolding request_in_held
  good_request is =
      ap (λ refusal. sent_unless refusal (sending_in event method None content held) held)
      (by_dialog (is_own_kind method) (is_early (held.dialog).state)
      (bytes_eq method (codes "INVITE"))
      (is_callee (held.dialog).side && bytes_eq method (codes "BYE"))
      (is_ended (held.dialog).state)
      (is_strict (held.dialog).route_set) (nat_le 2147483647 (held.dialog).local_cseq) is)
      ∙ sent_by method (request_fault held.dialog method)
      (sending_in event method None content held) held
