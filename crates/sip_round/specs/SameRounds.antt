-- Rounds that leave the same, and shards that hold the same.
use Rattle.std.specs.Prelude.{◌≡◌, ℕ, ◌+◌, List, length}
use Rattle.std.specs.List.{AllZip}
use Rattle.keyed_machine.specs.Machine.{tick_at}
use Rattle.keyed_machine.specs.Phase.{states_after}
use Rattle.keyed_machine.specs.SameTables as tables
use Rattle.sip_calls.specs.Call.{call_machine}
use Rattle.sip_calls.specs.CallShard.{call_cmp}
use Rattle.sip_message.specs.Key.{key_cmp}
use Rattle.sip_message.specs.declared.key.Key.{Key}
use Rattle.sip_transactions.specs.Machine.{transaction_machine}
use Rattle.sip_round.specs.declared.config.Config.{Config}
use Rattle.sip_round.specs.declared.round.Round.{Round}
use Rattle.sip_round.specs.AgentState.{ShardTables, calls_held, lives_held}
use Rattle.sip_round.specs.Answers.{calls_of, last_moment, past_of}

-- after two lists of rounds, which may begin with other numbers, the next round has the same number
-- and comes after the same moment, and each transaction and each call is in the same state
pub record LeaveTheSame (config other_config : Config) (rounds other_rounds : List Round)
    : Type 0 where
  pub shared : calls_of config ≡ calls_of other_config
  pub number : config.first + length rounds ≡ other_config.first + length other_rounds
  pub moment : last_moment rounds ≡ last_moment other_rounds
  pub transactions : (key : Key)
      → states_after key_cmp transaction_machine tick_at (past_of config rounds).transactions key
      ≡ states_after key_cmp transaction_machine tick_at
      (past_of other_config other_rounds).transactions key
  pub calls : (call_id : List ℕ)
      → states_after call_cmp (call_machine (calls_of config)) tick_at
      (past_of config rounds).calls call_id
      ≡ states_after call_cmp (call_machine (calls_of other_config)) tick_at
      (past_of other_config other_rounds).calls call_id

-- each shard of both kinds holds the same as the other one with its number
pub record ShardsHoldTheSame (one other : ShardTables) : Type 0 where
  pub transactions : AllZip (tables.HoldTheSame key_cmp) (lives_held one) (lives_held other)
  pub calls : AllZip (tables.HoldTheSame call_cmp) (calls_held one) (calls_held other)
