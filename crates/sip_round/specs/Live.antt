-- How much is held after a past.
use Rattle.std.specs.Prelude.{ℕ, List, is_some, count_by}
use Rattle.std.specs.declared.cmp.Ordering.{Ordering}
use Rattle.sip_calls.specs.Call.{call_machine}
use Rattle.sip_calls.specs.CallShard.{call_cmp}
use Rattle.sip_message.specs.Key.{key_cmp}
use Rattle.keyed_machine.specs.Machine.{Machine, tick_at}
use Rattle.keyed_machine.specs.Phase.{Phase, keys_of_phases, states_after}
use Rattle.sip_transactions.specs.Machine.{transaction_machine}
use Rattle.sip_round.specs.declared.config.Config.{Config}
use Rattle.sip_round.specs.Answers.{Past, calls_of}

-- how many keys have a state after their own inputs
abbrev pub live_after : {K S I O : Type 0} (cmp : K → K → Ordering) → Machine K S I O → (ℕ → I)
    → List (Phase K I) → ℕ
live_after cmp machine tick phases =
    count_by (λ key. is_some (states_after cmp machine tick phases key)) (keys_of_phases cmp phases)

-- the transactions that have begun and haven't ended, and the calls that hold something
abbrev pub live_of : Config → Past → ℕ × ℕ
live_of config past = (
  live_after key_cmp transaction_machine tick_at past.transactions,
  live_after call_cmp (call_machine (calls_of config)) tick_at past.calls,
)
