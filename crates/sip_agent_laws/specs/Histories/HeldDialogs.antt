-- Which dialogs an agent holds in a call after rounds, and how often the user is told of the end of
-- one (RFC 3261, sections 12.1, 12.3 and 15.1).
use Rattle.std.specs.Prelude.{◌≡◌, ℕ, ◌+◌, ◌≤◌, true, false, List, ◌∷◌, ◌++◌, None, cond, is_some}
use Rattle.keyed_machine.specs.Machine.{Timed}
use Rattle.sip_held_dialogs.specs.Dialogs.{dialog_at}
use Rattle.sip_held_dialogs.specs.declared.held_dialog.DialogId.{DialogId}
use Rattle.sip_calls.specs.Call.{CallItem, call_step}
use Rattle.sip_calls.specs.HeldDialogs.{ends, ends_told, held_from, held_now, opened_from, told_from}
use Rattle.sip_calls.specs.Histories.{call_from}
use Rattle.sip_calls.specs.Provisionals.{side_held}
use Rattle.sip_round.specs.Answers.{calls_of}
use Rattle.sip_round.specs.CallsHeld.{call_after}
use Rattle.sip_round.specs.Laws.{call_inputs_of}
use Rattle.sip_round.specs.declared.config.Config.{Config}
use Rattle.sip_round.specs.declared.round.Round.{Round}

-- After any rounds: a dialog of a name is held if an input of the call opened it and none ended it
-- since.
abbrev pub EachDialogIsHeldUntilItEnds : Type 0
EachDialogIsHeldUntilItEnds = (config : Config) (rounds : List Round) (call_id : List ℕ)
    (name : DialogId)
    → is_some (dialog_at name (side_held (call_after config rounds call_id)).dialogs)
    ≡ held_from (calls_of config) name None false (call_inputs_of config rounds call_id)

-- In any rounds: only the input of a call that ends a dialog tells the user of its end, once.
abbrev pub EachEndIsToldOnce : Type 0
EachEndIsToldOnce = (config : Config) (rounds : List Round) (call_id : List ℕ)
    (before after : List (Timed CallItem)) (input : Timed CallItem)
    → call_inputs_of config rounds call_id ≡ before ++ input ∷ after → (name : DialogId)
    → let call = call_from (calls_of config) None before in
    let outs = (call_step (calls_of config) call input.input input.moment).1 in
    ends_told name outs ≡ cond (ends call input outs name) 1 0

-- From any of its inputs on, a call tells of the end of a dialog no more often than they open it,
-- or once more if it was held. So between two such ends an input opened it.
abbrev pub EachEndHasItsOpening : Type 0
EachEndHasItsOpening = (config : Config) (rounds : List Round) (call_id : List ℕ)
    (before after : List (Timed CallItem))
    → call_inputs_of config rounds call_id ≡ before ++ after → (name : DialogId)
    → let call = call_from (calls_of config) None before in
    told_from (calls_of config) name call after
    + held_now name (call_after config rounds call_id)
    ≤ held_now name call + opened_from (calls_of config) name call after

-- In any rounds: if a dialog of a name is held before an input of its call, and none after it, that
-- input tells the user of its end, once. So no dialog ends untold.
abbrev pub NoEndIsUntold : Type 0
NoEndIsUntold = (config : Config) (rounds : List Round) (call_id : List ℕ)
    (before after : List (Timed CallItem)) (input : Timed CallItem)
    → call_inputs_of config rounds call_id ≡ before ++ input ∷ after → (name : DialogId)
    → let call = call_from (calls_of config) None before in
    let done = call_step (calls_of config) call input.input input.moment in
    is_some (dialog_at name (side_held call).dialogs) ≡ true
    → is_some (dialog_at name (side_held done.0).dialogs) ≡ false
    → ends_told name done.1 ≡ 1
