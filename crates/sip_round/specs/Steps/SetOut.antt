-- Steps before the first phase: events that were read and stamped.
use Rattle.std.specs.Prelude.{◌≡◌, List}
use Rattle.sip_message.specs.declared.id.Id.{Id}
use Rattle.sip_round.specs.Arrivals.{Arrival}
use Rattle.sip_round.specs.declared.waiting.SetOut.{SetOut}
use Rattle.sip_round.specs.Phases.{transaction_items}
use Rattle.sip_round.specs.Steps.Waiting.{all_waiting}

-- the inputs of transactions, and what waits, are those of these arrivals
pub record IsSetOut (arrivals : List (Id × Arrival)) (out : SetOut) : Type 0 where
  pub items_are : out.items.items ≡ transaction_items arrivals
  pub waiting_are : out.waiting.items ≡ all_waiting arrivals
