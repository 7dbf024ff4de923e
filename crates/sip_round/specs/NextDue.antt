-- When something in an agent is due, and what a round without events does before that.
use Rattle.std.specs.Prelude.{◌≡◌, ◌⊎◌, ℕ, List, [], ◌∷◌, ◌++◌, Some}
use Rattle.sip_calls.specs.Call.{call_due, call_machine}
use Rattle.sip_calls.specs.CallShard.{call_cmp}
use Rattle.sip_message.specs.Key.{key_cmp}
use Rattle.sip_message.specs.declared.key.Key.{Key}
use Rattle.keyed_machine.specs.Machine.{due_of, tick_at}
use Rattle.keyed_machine.specs.Phase.{states_after}
use Rattle.sip_transactions.specs.Machine.{life_due, transaction_machine}
use Rattle.sip_round.specs.declared.config.Config.{Config}
use Rattle.sip_round.specs.declared.round.Round.{Round}
use Rattle.sip_round.specs.Answers.{Past, answers, calls_of, past_of}

-- a round without events at a moment in ms
abbrev pub without_events : ℕ → Round
without_events moment = record { moment = moment; events = [] }

-- two pasts leave the same of each transaction and of each call
pub record LeavesAlike (config : Config) (one other : Past) : Type 0 where
  pub transactions : (key : Key)
      → states_after key_cmp transaction_machine tick_at one.transactions key
      ≡ states_after key_cmp transaction_machine tick_at other.transactions key
  pub calls : (call_id : List ℕ)
      → states_after call_cmp (call_machine (calls_of config)) tick_at one.calls call_id
      ≡ states_after call_cmp (call_machine (calls_of config)) tick_at other.calls call_id

-- after these rounds, a round without events at this moment gives nothing, and changes nothing that
-- is held
pub record IsQuietAfter (config : Config) (rounds : List Round) (moment : ℕ) : Type 0 where
  pub gives : answers config (rounds ++ without_events moment ∷ [])
      ≡ answers config rounds ++ [] ∷ []
  pub leaves : LeavesAlike config (past_of config (rounds ++ without_events moment ∷ []))
      (past_of config rounds)

-- after these rounds, a transaction or a call is due at this moment
abbrev pub IsDueAfter : Config → List Round → ℕ → Type 0
IsDueAfter config rounds moment =
    ((key : Key) × (due_of life_due
    (states_after key_cmp transaction_machine tick_at (past_of config rounds).transactions key)
    ≡ Some moment))
    ⊎ ((call_id : List ℕ) × (due_of call_due
    (states_after call_cmp (call_machine (calls_of config)) tick_at
    (past_of config rounds).calls call_id) ≡ Some moment))
