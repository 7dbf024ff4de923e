-- The arrivals of a round stand at their places, and so do their parts.
use Rattle.std.proofs.Common.{◌≡◌, ℕ, zero, suc, List, [], ◌∷◌, refl, ◌∙◌, ap}
use Rattle.sip_message.specs.declared.addr.Addr.{Addr}
use Rattle.sip_message.specs.declared.id.Id.{Id}
use Rattle.sip_message.specs.declared.key.Key.{Key}
use Rattle.keyed_machine.specs.declared.item.Item.{Item}
use Rattle.sip_transactions.specs.declared.input.Input.{Input}
use Rattle.sip_round.specs.declared.round.Event.{Event}
use Rattle.sip_round.specs.declared.waiting.Waiting.{Waiting}
use Rattle.sip_round.specs.Arrivals.{arrivals_from}
use Rattle.sip_round.specs.Steps.Arrived.{ArePlaced, IsArrived}
use Rattle.sip_shards.specs.Parts.{cut_by}
use Rattle.sip_round.specs.Phases.{transaction_items}
use Rattle.sip_round.specs.Steps.Waiting.{all_waiting}

placed_from : (local : Addr) (round place : ℕ) (events : List Event)
    → ArePlaced place (arrivals_from local round place events)
placed_from local round place [] = tt
placed_from local round place (e ∷ es) = (refl, placed_from local round (suc place) es)

pub arrived_here : (owner : ℕ → Key → ℕ) (n count : ℕ) (local : Addr) (round : ℕ)
    (events : List Event) (items : List (Item Key Input)) (parts : List (List (Item Key Input)))
    (waiting : List (Id × Waiting)) → n ≡ count
    → items ≡ transaction_items (arrivals_from local round 1 events)
    → waiting ≡ all_waiting (arrivals_from local round 1 events)
    → parts ≡ cut_by (owner n) zero n items
    → IsArrived (owner count) count (arrivals_from local round 1 events) parts waiting
arrived_here owner n count local round events items parts waiting same_count items_are waiting_are
    parts_are = record {
      placed = placed_from local round 1 events;
      parts_are = parts_are ∙ ap (cut_by (owner n) zero n) items_are
          ∙ ap (λ k. cut_by (owner k) zero k
          (transaction_items (arrivals_from local round 1 events))) same_count;
      waiting_are = waiting_are;
    }
