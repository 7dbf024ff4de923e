-- Items at the places of their numbers.
use Rattle.std.proofs.Common.{◌≡◌, ℕ, suc, List, [], ◌∷◌, map, arith}
use Rattle.sip_message.specs.declared.id.Id.{Id}
use Rattle.keyed_machine.specs.declared.item.Item.{Item}
use Rattle.sip_user.specs.declared.item.Item as served
use Rattle.sip_transactions.specs.declared.input.Command.{Command}
use Rattle.sip_round.specs.Phases.{call_items, command_items}
use Rattle.sip_shards.proofs.Climbing.{Climbs}

pub same_item : {K I : Type 0} (p q : ℕ) (k l : K) (i j : I) → p ≡ q → k ≡ l → i ≡ j
    → ◌≡◌ {A = Item K I} (record { place = p; key = k; input = i })
    (record { place = q; key = l; input = j })
same_item p q k l i j at by_key by_input =
    λ d. record { place = at d; key = by_key d; input = by_input d }

-- ---- their places climb

pub calls_climb : (place : ℕ) (items : List (Id × served.Item))
    → Climbs place (map (λ item. item.place) (call_items place items))
calls_climb place [] = tt
calls_climb place (i ∷ is) = (omega arith, calls_climb (suc place) is)

pub commands_climb : (place : ℕ) (commands : List (Id × Command))
    → Climbs place (map (λ item. item.place) (command_items place commands))
commands_climb place [] = tt
commands_climb place (c ∷ cs) = (omega arith, commands_climb (suc place) cs)
