-- What is held of a call after rounds is what its inputs leave, one by one.
use Rattle.std.proofs.Common.{◌≡◌, ℕ, List, [], ◌∷◌, ◌++◌, refl, sym, ap, ◌∙◌}
use Rattle.std.specs.Prelude.{Option, None}
use Rattle.keyed_machine.specs.Machine.{Timed, state_from}
use Rattle.sip_calls.specs.declared.call.Call.{Call}
use Rattle.sip_calls.specs.declared.calls.Calls.{Calls}
use Rattle.sip_calls.specs.Call.{CallItem, call_machine, call_step}
use Rattle.sip_calls.specs.Histories.{call_from}
use Rattle.sip_round.specs.Answers.{calls_of}
use Rattle.sip_round.specs.CallsHeld.{call_after}
use Rattle.sip_round.specs.Laws.{call_inputs_of}
use Rattle.sip_round.specs.declared.config.Config.{Config}
use Rattle.sip_round.specs.declared.round.Round.{Round}

pub same_call : (calls : Calls) (key : List ℕ) (state : Option Call) (inputs : List (Timed CallItem))
    → call_from calls state inputs ≡ state_from (call_machine calls) key state inputs
same_call calls key state [] = refl
same_call calls key state (input ∷ inputs) =
    same_call calls key (call_step calls state input.input input.moment).0 inputs

pub held_so : (config : Config) (rounds : List Round) (call_id : List ℕ)
    → call_from (calls_of config) None (call_inputs_of config rounds call_id)
    ≡ call_after config rounds call_id
held_so config rounds call_id =
    same_call (calls_of config) call_id None (call_inputs_of config rounds call_id)

-- first some inputs, and then others
pub from_both : (calls : Calls) (before after : List (Timed CallItem)) (state : Option Call)
    → call_from calls state (before ++ after)
    ≡ call_from calls (call_from calls state before) after
from_both calls [] after state = refl
from_both calls (input ∷ before) after state =
    from_both calls before after (call_step calls state input.input input.moment).0

pub held_in_parts : (config : Config) (rounds : List Round) (call_id : List ℕ)
    (before after : List (Timed CallItem))
    → call_inputs_of config rounds call_id ≡ before ++ after
    → call_from (calls_of config) (call_from (calls_of config) None before) after
    ≡ call_after config rounds call_id
held_in_parts config rounds call_id before after are =
    sym (from_both (calls_of config) before after None)
    ∙ ap (call_from (calls_of config) None) (sym are)
    ∙ held_so config rounds call_id
