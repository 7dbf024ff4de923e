-- The three phases of a round: what is given to the transactions, to the calls, and again to the
-- transactions.
use Rattle.std.specs.Prelude.{ℕ, suc, true, false, List, [], ◌∷◌}
use Rattle.std.specs.List.{flat_map}
use Rattle.keyed_machine.specs.Machine.{Timed}
use Rattle.sip_message.specs.declared.id.Id.{Id}
use Rattle.sip_message.specs.declared.key.Key.{Key}
use Rattle.sip_transactions.specs.declared.input.Command.{Command}
use Rattle.sip_transactions.specs.declared.input.Input.{Input}
use Rattle.sip_transactions.specs.Shard.{asked_by, command_key}
use Rattle.sip_user.specs.Command.{call_of_item}
use Rattle.sip_user.specs.declared.item.Item as served
use Rattle.sip_calls.specs.Call.{CallItem}
use Rattle.keyed_machine.specs.declared.item.Item.{Item}
use Rattle.keyed_machine.specs.Phase.{Phase, phase_at}
use Rattle.sip_round.specs.Arrivals.{Arrival}
use Rattle.sip_round.specs.Arrivals as arrival

-- an arrival that is an input of a transaction, at the place of its event
abbrev pub transaction_item : Id → Arrival → List (Item Key Input)
transaction_item id (arrival.Transaction key input) =
    record { place = id.place; key = key; input = input } ∷ []
transaction_item id _ = []

-- what arrived for the transactions
abbrev pub transaction_items : List (Id × Arrival) → List (Item Key Input)
transaction_items arrivals = flat_map (λ a. transaction_item a.0 a.1) arrivals

-- the first phase: the transactions take a tick, and then messages and failures by place
abbrev pub first_phase : ℕ → List (Id × Arrival) → Phase Key (Timed Input)
first_phase now arrivals = phase_at now true (transaction_items arrivals)

-- the second phase: the calls take a tick, and then what came up and the user's commands, in their
-- order
abbrev pub call_items : ℕ → List (Id × served.Item) → List (Item (List ℕ) CallItem)
call_items place [] = []
call_items place (i ∷ is) =
    record { place = place; key = call_of_item i.1; input = i }
    ∷ call_items (suc place) is

-- a tick, and the items of the calls
abbrev pub second_phase : ℕ → List (Id × served.Item) → Phase (List ℕ) (Timed CallItem)
second_phase now items = phase_at now true (call_items 0 items)

-- the third phase: the transactions take the commands of the calls, in their order, without a tick
abbrev pub command_items : ℕ → List (Id × Command) → List (Item Key Input)
command_items place [] = []
command_items place (c ∷ cs) =
    record { place = place; key = command_key c.1; input = asked_by c.0 c.1 }
    ∷ command_items (suc place) cs

-- the commands for transactions, without a tick
abbrev pub third_phase : ℕ → List (Id × Command) → Phase Key (Timed Input)
third_phase now commands = phase_at now false (command_items 0 commands)
