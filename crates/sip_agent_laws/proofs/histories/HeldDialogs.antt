-- The dialogs that are held after rounds are those that inputs opened and none ended since.
use Rattle.std.proofs.Common.{◌≡◌, ◌+◌, ◌≤◌, Bool, true, false, not, ◌&&◌, ◌||◌, cond, List, [], ◌∷◌, ◌++◌, refl, sym, ap, subst, ◌∙◌}
use Rattle.std.specs.Prelude.{Option, None, is_some}
use Rattle.std.proofs.lemmas.Bool.{false≢true, true≢false}
use Rattle.keyed_machine.specs.Machine.{Timed}
use Rattle.sip_held_dialogs.specs.declared.held_dialog.DialogId.{DialogId}
use Rattle.sip_held_dialogs.specs.Dialogs.{dialog_at}
use Rattle.sip_calls.specs.declared.call.Call.{Call}
use Rattle.sip_calls.specs.declared.calls.Calls.{Calls}
use Rattle.sip_calls.specs.Call.{CallItem, call_step}
use Rattle.sip_calls.specs.HeldDialogs.{ends, held_from, held_next, held_now, opened_from, opens, told_from}
use Rattle.sip_calls.specs.Histories.{call_from}
use Rattle.sip_calls.specs.Provisionals.{side_held}
use Rattle.sip_calls.proofs.HeldDialogs as calls
use Rattle.sip_round.specs.Answers.{calls_of}
use Rattle.sip_round.specs.Laws.{call_inputs_of}
use Rattle.sip_agent_laws.specs.Histories.HeldDialogs.{EachDialogIsHeldUntilItEnds, EachEndHasItsOpening, EachEndIsToldOnce, NoEndIsUntold}
use Rattle.sip_agent_laws.proofs.histories.CallsAfter.{from_both, held_in_parts, held_so}

pub dialogs_are_held_until_they_end : EachDialogIsHeldUntilItEnds
dialogs_are_held_until_they_end config rounds call_id name =
    ap (λ call. is_some (dialog_at name (side_held call).dialogs))
    (sym (held_so config rounds call_id))
    ∙ calls.held_until_it_ends (calls_of config) (call_inputs_of config rounds call_id) name

pub ends_are_told_once : EachEndIsToldOnce
ends_are_told_once config rounds call_id before after input are name =
    calls.each_end_is_told_once (calls_of config) before input name

pub ends_have_their_openings : EachEndHasItsOpening
ends_have_their_openings config rounds call_id before after are name =
    let call = call_from (calls_of config) None before in
    subst (λ left. told_from (calls_of config) name call after + held_now name left
    ≤ held_now name call + opened_from (calls_of config) name call after)
    (held_in_parts config rounds call_id before after are)
    (calls.each_end_has_its_opening (calls_of config) before after name)

-- ---- no end is untold

held_both : (calls : Calls) (name : DialogId) (first second : List (Timed CallItem))
    (call : Option Call) (held : Bool)
    → held_from calls name call held (first ++ second)
    ≡ held_from calls name (call_from calls call first) (held_from calls name call held first) second
held_both calls name [] second call held = refl
held_both calls name (input ∷ first) second call held =
    held_both calls name first second (call_step calls call input.input input.moment).0
    (held_next calls name call held input)

was_ended : (opened held ended : Bool) → held ≡ true → (opened || (held && not ended)) ≡ false
    → ended ≡ true
was_ended true held ended was gone = absurd (true≢false gone)
was_ended false true true was gone = refl
was_ended false true false was gone = absurd (true≢false gone)
was_ended false false ended was gone = absurd (false≢true was)

pub no_end_is_untold : NoEndIsUntold
no_end_is_untold config rounds call_id before after input are name held gone =
    let all = calls_of config in
    let call = call_from all None before in
    let outs = (call_step all call input.input input.moment).1 in
    let was = sym (calls.held_until_it_ends all before name) ∙ held in
    let is =
    sym (ap (λ state. is_some (dialog_at name (side_held state).dialogs))
    (sym (from_both all before (input ∷ []) None))
    ∙ calls.held_until_it_ends all (before ++ input ∷ []) name
    ∙ held_both all name before (input ∷ []) None false) ∙ gone in
    ends_are_told_once config rounds call_id before after input are name
    ∙ ap (λ b. cond b 1 0) (was_ended (opens call input.input outs name)
    (held_from all name None false before) (ends call input outs name) was is)
