-- Steps of the first phase: arrivals by place, and their parts for the shards.
use Rattle.std.specs.Prelude.{◌≡◌, ℕ, zero, suc, List, [], ◌∷◌}
use Rattle.sip_message.specs.declared.id.Id.{Id}
use Rattle.sip_message.specs.declared.key.Key.{Key}
use Rattle.keyed_machine.specs.declared.item.Item.{Item}
use Rattle.sip_transactions.specs.declared.input.Input.{Input}
use Rattle.sip_round.specs.Arrivals.{Arrival}
use Rattle.sip_round.specs.declared.waiting.Waiting.{Waiting}
use Rattle.sip_shards.specs.Parts.{cut_by}
use Rattle.sip_round.specs.Phases.{transaction_items}
use Rattle.sip_round.specs.Steps.Waiting.{all_waiting}

-- arrivals at consecutive places, from this one on
abbrev pub ArePlaced : ℕ → List (Id × Arrival) → Type 0
ArePlaced place [] = Unit {0}
ArePlaced place (a ∷ rest) = ((a.0).place ≡ place) × ArePlaced (suc place) rest

-- the parts of this many shards, and what waits, are those of these arrivals
pub record IsArrived (owner : Key → ℕ) (shards : ℕ) (arrivals : List (Id × Arrival))
    (parts : List (List (Item Key Input))) (waiting : List (Id × Waiting)) : Type 0 where
  pub placed : ArePlaced 1 arrivals
  pub parts_are : parts ≡ cut_by owner zero shards (transaction_items arrivals)
  pub waiting_are : waiting ≡ all_waiting arrivals
