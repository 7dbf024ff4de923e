-- Steps of an agent: one more round.
use Rattle.std.specs.Prelude.{◌≡◌, ℕ, List, [], ◌∷◌, ◌++◌, map}
use Rattle.sip_round.specs.declared.config.Config.{Config}
use Rattle.sip_round.specs.declared.output.Output.{Output}
use Rattle.sip_round.specs.declared.output.PlacedOutput.{PlacedOutput}
use Rattle.sip_round.specs.declared.round.Round.{Round}
use Rattle.sip_round.specs.AgentState.{AgentState}
use Rattle.sip_round.specs.Answers.{StandsFor, answers, placed_answers}
use Rattle.sip_round.specs.Steps.Form.{in_form}

-- the agent stands for these rounds and one more, which was answered with these outputs
pub record StandsLonger {C : Type 0} (shard_of : C → List ℕ → ℕ → ℕ) (agent : AgentState C)
    (config : Config) (rounds : List Round) (round : Round)
    (outputs : List PlacedOutput) : Type 0 where
  pub stands : StandsFor shard_of agent config (rounds ++ round ∷ [])
  pub placed : placed_answers config (rounds ++ round ∷ [])
      ≡ placed_answers config rounds ++ outputs ∷ []
  pub alone : answers config (rounds ++ round ∷ [])
      ≡ answers config rounds ++ map (λ placed. placed.output) outputs ∷ []

-- whatever rounds the old agent stood for, the new one stands for these and this one, whose outputs
-- are given in this form
abbrev pub GivesOneMore : {C F : Type 0} → (C → List ℕ → ℕ → ℕ) → (ℕ → Output → F)
    → AgentState C → AgentState C → Round → List F → Type 0
GivesOneMore shard_of form old new round given =
    (outputs : List PlacedOutput) × (given ≡ in_form form outputs)
    × ((config : Config) (rounds : List Round) → StandsFor shard_of old config rounds
    → StandsLonger shard_of new config rounds round outputs)
