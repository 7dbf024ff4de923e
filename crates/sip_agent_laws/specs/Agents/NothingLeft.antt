-- What is left of an agent in which nothing waits.
use Rattle.std.specs.Prelude.{◌≡◌, ℕ, false, List, ◌++◌, Option}
use Rattle.sip_calls.specs.declared.call.Call.{Call}
use Rattle.sip_agent_laws.specs.Calls.Waiting.{NothingWaits, awaits_report}
use Rattle.sip_round.specs.declared.config.Config.{Config}
use Rattle.sip_round.specs.declared.round.Round.{Round}
use Rattle.sip_round.specs.Answers.{past_of}
use Rattle.sip_round.specs.CallsHeld.{call_after}
use Rattle.sip_round.specs.Live.{live_of}
use Rattle.sip_agent_laws.specs.Agents.AtRest.{IsQuietSince}

-- in a call nothing waits for the user: no request of the peer and no INVITE of the agent without a
-- final response, and no dialog; and no other request of the agent waits for its transaction
pub record IsSettled (call : Option Call) : Type 0 where
  pub user : NothingWaits call
  pub transaction : awaits_report call ≡ false

-- If nothing waits for the user in any call, then after rounds without events, for 64*T1, no
-- transaction is held.
abbrev pub NoTransactionStays : Type 0
NoTransactionStays = (config : Config) (moment : ℕ) (rounds idle : List Round)
    → ((call_id : List ℕ) → NothingWaits (call_after config rounds call_id))
    → IsQuietSince moment rounds idle
    → (live_of config (past_of config (rounds ++ idle))).0 ≡ 0

-- Nothing stays. If nothing waits in any call, then after rounds without events, for 64*T1, no
-- transaction and no call is held.
abbrev pub NothingStays : Type 0
NothingStays = (config : Config) (moment : ℕ) (rounds idle : List Round)
    → ((call_id : List ℕ) → IsSettled (call_after config rounds call_id))
    → IsQuietSince moment rounds idle
    → live_of config (past_of config (rounds ++ idle)) ≡ (0, 0)
