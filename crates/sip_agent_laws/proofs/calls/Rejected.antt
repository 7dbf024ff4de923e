-- A rejection of the user to a request without a final response isn't refused, and goes out.
use Rattle.std.proofs.Common.{◌≡◌, ◌≤◌, ℕ, ◌+◌, ◌*◌, Bool, true, false, not, ◌&&◌, ◌||◌, cond, List, [], ◌∷◌, refl, sym, ap, subst, ◌∙◌, arith}
use Rattle.std.proofs.lemmas.Bool.{and_right}
use Rattle.std.specs.Prelude.{None, Some, find, is_none, is_some, nat_le, if◌then◌else◌}
use Rattle.std.specs.List.{list_any}
use Rattle.std.specs.Option.{option_map}
use Rattle.std.specs.Result.{result_ok}
use Rattle.std.proofs.lemmas.Bool.Decides.{nat_tests}
use Rattle.sip_message.specs.declared.id.Id.{Id}
use Rattle.sip_message.specs.declared.addr.Addr.{Addr}
use Rattle.sip_message.specs.declared.message.Message.{Message}
use Rattle.sip_message.specs.Content.{with_content_of}
use Rattle.sip_message.specs.Response.{response_of}
use Rattle.sip_reliable.specs.Ledger.{send_answer, send_fault}
use Rattle.sip_timers.specs.declared.estimate.TheConstants.{T1}
use Rattle.sip_user.specs.declared.command.Reliability.{Reliability}
use Rattle.sip_user.specs.declared.command.Respond.{Respond}
use Rattle.sip_user.specs.declared.command.UserCommand.TheVariants as command
use Rattle.sip_user.specs.declared.item.CallOut.{CallOut}
use Rattle.sip_user.specs.declared.item.CallOut.TheVariants.{Command}
use Rattle.sip_transactions.specs.declared.input.Command.TheVariants.{Answer}
use Rattle.sip_user.specs.declared.item.Item.TheVariants.{User}
use Rattle.sip_user.specs.declared.refusal.Refusal.TheVariants.{AlreadyFinal, BadStatus, NotSupported, DialogEnded, ReliablePending}
use Rattle.sip_user.specs.Refusal.{first_refusal}
use Rattle.indexmap.specs.IndexMap.{insert_entry}
use Rattle.sip_held_dialogs.specs.Dialogs.{Dialogs, confirmed, dialog_changed, early_ended, is_dialog_id}
use Rattle.sip_held_dialogs.specs.Requests.{dialog_id_of, is_final, has_to_tag, is_invite, is_provisional, is_success, requires_100rel, supports_100rel}
use Rattle.sip_held_dialogs.proofs.Heard.{id_laws}
use Rattle.sip_served.specs.declared.held_request.HeldRequest.{HeldRequest}
use Rattle.sip_served.specs.RequestLife.{Finishes, MakesDialog, went_on}
use Rattle.sip_served.specs.Respond.{answer_given, answer_to, answered, by_refusal, by_request, dialogs_answered, has_ended, if_so, is_reliable, is_sent_reliably, is_user_status, made_dialog, makes_dialog, makes_or_confirms_dialog, may_be_reliable, refusal_for, refusal_of_fault, reliable_refusal, sends_as, with_dialog, with_routes, with_rseq}
use Rattle.sip_served.specs.State.{State, ServedTaken, has_id}
use Rattle.sip_served.proofs.Found.{change, found_changed, keeps}
use Rattle.sip_calls.specs.declared.call.Call.{Call}
use Rattle.sip_calls.specs.Call.{kept}
use Rattle.sip_calls.specs.Sides.{by_server}
use Rattle.sip_calls.proofs.HeldRequests.{kept_requests}
use Rattle.sip_calls.proofs.SameSteps.{same_step}
use Rattle.sip_agent_laws.specs.Calls.Rejections.{IsRejected, IsRejection, RejectionsAreAccepted, rejection}

-- ---- statuses

not_provisional : (status : ℕ) → 300 ≤ status → is_provisional status ≡ false
not_provisional status from = grind (arith, nat_tests)

not_success : (status : ℕ) → 300 ≤ status → is_success status ≡ false
not_success status from = grind (arith, nat_tests)

final : (status : ℕ) → 300 ≤ status → is_final status ≡ true
final status from = grind (arith, nat_tests)

rejecting : (status : ℕ) → 300 ≤ status → nat_le 300 status ≡ true
rejecting status from = grind (arith, nat_tests)

for_user : (status : ℕ) → 300 ≤ status → status ≤ 699 → is_user_status status ≡ true
for_user status from to = grind (arith, nat_tests)

-- it isn't sent reliably
pub not_reliable : (held : HeldRequest) (status : ℕ) (reliability : Reliability) → 300 ≤ status
    → is_sent_reliably held status reliability ≡ false
not_reliable held status reliability from =
    let wanted = is_reliable reliability || requires_100rel held.request in
    ap (λ b. (is_invite held.request && b && supports_100rel held.request) && wanted)
    (not_provisional status from)
    ∙ ap (λ b. (b && supports_100rel held.request) && wanted)
    (and_right (is_invite held.request) false refl)

-- it neither makes nor confirms a dialog
pub no_dialog : (held : HeldRequest) (status : ℕ) → 300 ≤ status
    → makes_or_confirms_dialog held status ≡ false
no_dialog held status from =
    (λ i. is_invite held.request && (not_provisional status from i || not_success status from i))
    ∙ and_right (is_invite held.request) false refl

pub makes_none : (held : HeldRequest) (status : ℕ) → 300 ≤ status
    → makes_dialog held status ≡ false
makes_none held status from =
    ap (λ b. b && not (has_to_tag held.request) && is_none held.dialog)
    (no_dialog held status from)

-- ---- why it could be refused

pub unrefused : (dialogs : Dialogs) (respond : Respond) (held : HeldRequest) → IsRejection respond
    → held.removal ≡ None → refusal_for dialogs respond held ≡ None
unrefused dialogs respond held rejected lacks =
    let status = respond.status in
    let from = rejected.from in
    let reliable : reliable_refusal held respond ≡ None =
    (λ i. cond (not_reliable held status respond.reliability from i)
    (option_map refusal_of_fault (send_fault held.ledger))
    (cond (not_success status from i && list_any (λ p. p.has_body) held.ledger.waiting)
    (Some ReliablePending) None)) in
    λ i. first_refusal ((not (for_user status from rejected.to i), BadStatus)
    ∷ (is_some (lacks i), AlreadyFinal)
    ∷ (is_reliable (rejected.plain i) && not (may_be_reliable held status), NotSupported)
    ∷ (no_dialog held status from i && has_ended dialogs held, DialogEnded)
    ∷ []) (reliable i)

-- ---- what goes out

response_same : (local : Addr) (held : HeldRequest) (respond : Respond) → 300 ≤ respond.status
    → answer_to local held respond ≡ rejection held respond
response_same local held respond from =
    let status = respond.status in
    let bare = response_of held.request status respond.reason held.tag in
    λ i. with_content_of (if_so (not_reliable held status respond.reliability from i)
    (with_rseq (result_ok (send_answer held.ledger)))
    (if_so (no_dialog held status from i) (with_routes local held.request) bare)) respond.content

early_if : (b : Bool) (early : Dialogs × List CallOut) (dialogs : Dialogs)
    → (cond (b && true) early (dialogs, [])).1 ≡ (if b then early.1 else [])
early_if true early dialogs = refl
early_if false early dialogs = refl

ends_same : (event : Id) (held : HeldRequest) (status : ℕ) (response : Message)
    (dialogs : Dialogs) → 300 ≤ status
    → (dialogs_answered event held status response dialogs).1
    ≡ (if is_invite held.request then (early_ended held.id dialogs).1 else [])
ends_same event held status response dialogs from =
    let name = dialog_id_of held.request held.tag in
    let made = insert_entry is_dialog_id dialogs name (made_dialog event held status) in
    let told = dialog_changed name (confirmed response) dialogs in
    let outside = not (has_to_tag held.request) in
    (λ i. (cond {A = Dialogs × List CallOut}
    (no_dialog held status from i && outside && is_none held.dialog) (made, [])
    (cond (no_dialog held status from i && is_success status && outside) (told, [])
    (cond (is_invite held.request && rejecting status from i) (early_ended held.id dialogs)
    (dialogs, [])))).1)
    ∙ early_if (is_invite held.request) (early_ended held.id dialogs) dialogs

-- ---- the request afterwards

module _ (event : Id) (respond : Respond) (response : Message) (now : ℕ) (held : HeldRequest)
    (from : 300 ≤ respond.status) where
  undialoged : with_dialog event respond.status held ≡ held
  undialoged =
      ap (λ b. went_on (cond b
      (MakesDialog record { name = dialog_id_of held.request held.tag; created_by = event } ∷ [])
      []) held)
      (makes_none held respond.status from)

  pub final_at : (answered respond.status respond.reliability response now
      (with_dialog event respond.status held)).removal ≡ Some (now + 64 * T1)
  final_at =
      ap (λ (one : HeldRequest).
      (answered respond.status respond.reliability response now one).removal) undialoged
      ∙ (λ i. (went_on (cond (not_reliable held respond.status respond.reliability from i)
      (sends_as (send_answer held.ledger) response now)
      (cond (final respond.status from i) (Finishes response respond.status now ∷ []) []))
      held).removal)

-- ---- all of it

found_after : (state : State) (event : Id) (respond : Respond) (now : ℕ) (held : HeldRequest)
    → 300 ≤ respond.status → find (has_id respond.id) state.requests ≡ Some held
    → option_map (λ (after : HeldRequest). after.removal) (find (has_id respond.id)
    ((answer_given state event respond now held).0).requests) ≡ Some (Some (now + 64 * T1))
found_after state event respond now held from found =
    let changed = change state event respond now held in
    let id = respond.id in
    ap (option_map (λ (after : HeldRequest). after.removal))
    (found_changed id id changed (keeps state event respond now held) state.requests
    ∙ (λ i. cond (id_laws.refl id i) (option_map changed (found i)) (found i)))
    ∙ ap Some (final_at event respond (answer_to state.local held respond) now held from)

rejected_of : (call : Call) (event : Id) (respond : Respond) (now : ℕ) (held : HeldRequest)
    → find (has_id respond.id) (call.served).requests ≡ Some held → IsRejection respond
    → IsRejected call held respond now
    (kept (by_server call (answer_given call.served event respond now held)))
rejected_of call event respond now held found rejected =
    let state = call.served in
    let response = answer_to state.local held respond in
    let after = by_server call (answer_given state event respond now held) in
    record {
      sent = λ i. Command held.id
          (Answer held.key (response_same state.local held respond rejected.from i))
          ∷ ends_same event held respond.status response state.dialogs rejected.from i;
      final = ap (λ requests. option_map (λ (after : HeldRequest). after.removal)
          (find (has_id respond.id) requests)) (kept_requests after.0)
          ∙ found_after state event respond now held rejected.from found;
    }

pub rejections_are_accepted : RejectionsAreAccepted
rejections_are_accepted calls call event respond now held found lacks rejected =
    let state = call.served in
    subst (IsRejected call held respond now)
    (sym (same_step calls (Some call) (Some (event, User (command.Respond respond))) now
    ∙ ap (λ (taken : ServedTaken). kept (by_server call taken))
    (ap (by_request state event respond now) found
    ∙ ap (by_refusal state event respond now held)
    (unrefused state.dialogs respond held rejected lacks))))
    (rejected_of call event respond now held found rejected)
