-- What holds of the configurations of both sides, whatever they are.
use Rattle.sip_message.specs.Addr.{IsAddr}
use Rattle.sip_message.specs.Key.{key_cmp}
use Rattle.keyed_machine.specs.Laws.{EachKeyAlone}
use Rattle.keyed_machine.specs.Machine.{tick_at}
use Rattle.sip_transactions.specs.Machine.{transaction_machine}
use Rattle.sip_calls.specs.Call.{call_machine}
use Rattle.sip_calls.specs.CallShard.{call_cmp}
use Rattle.sip_round.specs.declared.config.Config.{Config}
use Rattle.sip_round.specs.Answers.{calls_of}
use Rattle.sip_conversation.specs.Conversation.{Side}

-- The numbers of each address are octets, and each transaction and each call of a side depends on
-- its own inputs alone.
pub record IsFair (configs : Side → Config) : Type 0 where
  pub addresses : (s : Side) → IsAddr (configs s).local
  pub transactions : EachKeyAlone key_cmp transaction_machine tick_at
  pub calls : (s : Side) → EachKeyAlone call_cmp (call_machine (calls_of (configs s))) tick_at
