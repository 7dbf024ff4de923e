-- When an agent is at rest: after rounds without events, 64*T1 after the last event. T1 is that of
-- RFC 3261, section 17.1.1.1.
use Rattle.std.specs.Prelude.{◌≡◌, ◌≤◌, ℕ, ◌+◌, ◌*◌, true, nat_le, List, [], ◌++◌}
use Rattle.std.specs.List.{AllByRecursion, list_any}
use Rattle.sip_message.specs.declared.key.Key.{Key}
use Rattle.sip_timers.specs.declared.estimate.TheConstants.{T1}
use Rattle.sip_transactions.specs.Steps.Input.{role_of}
use Rattle.sip_agent_laws.specs.Transactions.Timers.{is_gone_or_waits}
use Rattle.sip_agent_laws.specs.Calls.Rest.{IsAtRest}
use Rattle.sip_round.specs.declared.config.Config.{Config}
use Rattle.sip_round.specs.declared.round.Round.{Round}
use Rattle.sip_round.specs.CallsHeld.{call_after}
use Rattle.sip_round.specs.NextDue.{IsDueAfter}
use Rattle.sip_agent_laws.specs.Agents.Open.{life_after}

-- ---- rounds without events

abbrev pub AreWithoutEvents : List Round → Type 0
AreWithoutEvents rounds = AllByRecursion (λ round. round.events ≡ []) rounds

-- one of the rounds is at this moment or later
abbrev pub reaches : ℕ → List Round → Type 0
reaches moment rounds = list_any (λ round. nat_le moment round.moment) rounds ≡ true

-- Rounds up to a moment, in any order of time, and then rounds without events, of which one is
-- 64*T1 later or later still.
pub record IsQuietSince (moment : ℕ) (rounds idle : List Round) : Type 0 where
  pub by : AllByRecursion (λ round. round.moment ≤ moment) rounds
  pub none : AreWithoutEvents idle
  pub reached : reaches (moment + 64 * T1) idle

-- ---- the agent

-- Each transaction is gone, or waits without a timer; each call is at rest; nothing is due ever.
pub record IsAgentAtRest (config : Config) (rounds : List Round) : Type 0 where
  pub transactions : (key : Key)
      → is_gone_or_waits (role_of key) (life_after config rounds key) ≡ true
  pub calls : (call_id : List ℕ) → IsAtRest (call_after config rounds call_id)
  pub due : (moment : ℕ) → IsDueAfter config rounds moment → ⊥

-- then the agent is at rest
abbrev pub EachAgentComesToRest : Type 0
EachAgentComesToRest = (config : Config) (moment : ℕ) (rounds idle : List Round)
    → IsQuietSince moment rounds idle → IsAgentAtRest config (rounds ++ idle)
