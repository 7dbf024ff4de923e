-- What leaves the agent, and what stays inside it.
use Rattle.std.specs.Prelude.{ℕ, nat_eq, List, [], ◌∷◌, ◌++◌, Some, None, filter, map, unwrap_or}
use Rattle.std.specs.List.{flat_map, slice_get}
use Rattle.sip_message.specs.declared.id.Id.{Id}
use Rattle.sip_transactions.specs.declared.input.Command.{Command}
use Rattle.sip_transactions.specs.declared.output.Out.{Out}
use Rattle.sip_transactions.specs.declared.output.Out.TheVariants as out
use Rattle.sip_user.specs.declared.item.Item.{Item}
use Rattle.sip_user.specs.declared.item.Item.TheVariants as item
use Rattle.sip_user.specs.declared.item.CallOut.{CallOut}
use Rattle.sip_user.specs.declared.item.CallOut.TheVariants as call_out
use Rattle.keyed_machine.specs.Phase.{PhaseOutputs}
use Rattle.sip_round.specs.Arrivals.{Arrival}
use Rattle.sip_round.specs.Arrivals as arrival
use Rattle.sip_round.specs.declared.output.Output.{Output}
use Rattle.sip_round.specs.declared.output.Output.TheVariants as output
use Rattle.sip_round.specs.declared.output.PlacedOutput.{PlacedOutput}

-- what a transaction sends or drops
abbrev pub sent_of : Out → List Output
sent_of (out.Up up) = []
sent_of (out.Send key to bytes) = output.Send (Some key) to bytes ∷ []
sent_of (out.Dropped place why) = output.Dropped place why ∷ []

-- what a transaction hands up, as an item of a call
abbrev pub raised_of : Id → Out → List (Id × Item)
raised_of id (out.Up up) = (id, item.Up up) ∷ []
raised_of id _ = []

-- what a call tells the user, or sends outside of any transaction
abbrev pub call_outputs : CallOut → List Output
call_outputs (call_out.Notice notice) = output.Notice notice ∷ []
call_outputs (call_out.Command id command) = []
call_outputs (call_out.Direct to bytes) = output.Send None to bytes ∷ []

-- outputs for the event at a place; for a round's ticks the place is 0
abbrev pub at_place : ℕ → List Output → List PlacedOutput
at_place place outputs = map (λ output. record { place = place; output = output }) outputs

-- what a transaction sends or drops because of the event at this place
abbrev pub sent_at : ℕ → Out → List PlacedOutput
sent_at place out = at_place place (sent_of out)

-- what a call shows because of the event at this place
abbrev pub call_outputs_at : ℕ → CallOut → List PlacedOutput
call_outputs_at place out = at_place place (call_outputs out)

-- the place of the event that the item at an index belongs to
abbrev pub place_of : List (Id × Item) → ℕ → ℕ
place_of items index = unwrap_or (slice_get (map (λ item. (item.0).place) items) index) 0

-- what a call asks of a transaction
abbrev pub command_of : CallOut → List (Id × Command)
command_of (call_out.Command id command) = (id, command) ∷ []
command_of _ = []

-- all outputs of the groups, in their order
abbrev pub joined : {L O : Type 0} → List (L × List O) → List O
joined groups = flat_map (λ group. group.1) groups

-- all outputs of a phase: those to the tick in key order, and then those of the items, in order
abbrev pub all_said : {K O : Type 0} → PhaseOutputs K O → List O
all_said told = joined told.ticks ++ joined told.items

-- the outputs of the item at a place
abbrev pub said_at : {K O : Type 0} → PhaseOutputs K O → ℕ → List O
said_at told place = joined (filter (λ said. nat_eq (said.0).0 place) told.items)

-- the outputs for an arrival in the first phase, if the transactions say these by place
abbrev pub outs_of : (ℕ → List Out) → Id → Arrival → List Out
outs_of said id (arrival.Transaction key input) = said id.place
outs_of said id (arrival.Dropped why) = out.Dropped id.place why ∷ []
outs_of said id (arrival.User command) = []

-- a command of the user is an item of its call
abbrev pub user_items : Id → Arrival → List (Id × Item)
user_items id (arrival.User command) = (id, item.User command) ∷ []
user_items id _ = []
