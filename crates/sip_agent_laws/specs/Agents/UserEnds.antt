-- How the user ends all that an agent holds, in one round.
use Rattle.std.specs.Prelude.{◌≡◌, ◌⊎◌, ℕ, true, false, List, [], ◌∷◌, ◌++◌}
use Rattle.std.specs.List.{AllByRecursion}
use Rattle.sip_message.specs.declared.id.Id.{Id}
use Rattle.sip_user.specs.Command.{call_of_command}
use Rattle.sip_user.specs.declared.command.UserCommand.{UserCommand}
use Rattle.sip_user.specs.declared.command.UserCommand.TheVariants.{AbandonRequest}
use Rattle.sip_clients.specs.declared.client.Client.{Client}
use Rattle.sip_clients.specs.Rules.Requests.{is_invite_kind}
use Rattle.sip_calls.specs.Provisionals.{side_held}
use Rattle.sip_agent_laws.specs.Calls.Ending.{Ends}
use Rattle.sip_agent_laws.specs.Calls.Waiting.{Waiting, waits}
use Rattle.sip_round.specs.declared.config.Config.{Config}
use Rattle.sip_round.specs.declared.round.Event.{Event}
use Rattle.sip_round.specs.declared.round.Event.TheVariants as event
use Rattle.sip_round.specs.declared.round.Round.{Round}
use Rattle.sip_round.specs.Answers.{past_of}
use Rattle.sip_round.specs.CallsHeld.{call_after}
use Rattle.sip_round.specs.Live.{live_of}
use Rattle.sip_agent_laws.specs.Agents.AtRest.{IsQuietSince}

-- a command that ends something: a rejection, or one that gives up a request or a dialog
abbrev pub IsEnding : Event → Type 0
IsEnding (event.Datagram from bytes) = ⊥
IsEnding (event.Failed key) = ⊥
IsEnding (event.Command command) = (one : Waiting) × Ends one command

-- one of the events is a command for this call of which this is true
abbrev pub SomeCommand : List ℕ → (UserCommand → Type 0) → List Event → Type 0
SomeCommand call_id Is [] = ⊥
SomeCommand call_id Is (event.Datagram from bytes ∷ events) = SomeCommand call_id Is events
SomeCommand call_id Is (event.Failed key ∷ events) = SomeCommand call_id Is events
SomeCommand call_id Is (event.Command command ∷ events) =
    ((call_of_command command ≡ call_id) × Is command) ⊎ SomeCommand call_id Is events

-- it gives up the request of this id
abbrev pub GivesUp : Id → UserCommand → Type 0
GivesUp id (AbandonRequest abandon) = abandon.id ≡ id
GivesUp id _ = ⊥

-- After these rounds, the events of the next are such commands: one for each thing that waits for
-- the user in any call.
pub record EndsWhatWaits (config : Config) (rounds : List Round) (round : Round) : Type 0 where
  pub only : AllByRecursion IsEnding round.events
  pub each : (call_id : List ℕ) (one : Waiting)
      → waits one (call_after config rounds call_id) ≡ true
      → SomeCommand call_id (Ends one) round.events

-- and one for each request of the agent other than an INVITE
pub record EndsAll (config : Config) (rounds : List Round) (round : Round) : Type 0 where
  pub waiting : EndsWhatWaits config rounds round
  pub others : (call_id : List ℕ)
      → AllByRecursion (λ (entry : Id × Client). is_invite_kind entry.1.kind ≡ false
      → SomeCommand call_id (GivesUp entry.0) round.events)
      (side_held (call_after config rounds call_id)).clients

-- Whatever the peers did: after a round that ends what waits, and rounds without events for 64*T1,
-- no transaction is held.
abbrev pub UserEndsTransactions : Type 0
UserEndsTransactions = (config : Config) (moment : ℕ) (rounds : List Round) (round : Round)
    (idle : List Round) → EndsWhatWaits config rounds round
    → IsQuietSince moment (rounds ++ round ∷ []) idle
    → (live_of config (past_of config ((rounds ++ round ∷ []) ++ idle))).0 ≡ 0

-- After a round that ends all of it no call is held either.
abbrev pub UserEndsAgent : Type 0
UserEndsAgent = (config : Config) (moment : ℕ) (rounds : List Round) (round : Round)
    (idle : List Round) → EndsAll config rounds round
    → IsQuietSince moment (rounds ++ round ∷ []) idle
    → live_of config (past_of config ((rounds ++ round ∷ []) ++ idle)) ≡ (0, 0)
