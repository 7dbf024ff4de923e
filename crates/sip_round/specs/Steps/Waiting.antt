-- Steps of the first phase: what waits for the answers of the transactions, and how these are put
-- in between.
use Rattle.std.specs.Prelude.{ℕ, List, [], ◌∷◌, map}
use Rattle.sip_message.specs.declared.id.Id.{Id}
use Rattle.sip_transactions.specs.declared.output.Out.{Out}
use Rattle.sip_transactions.specs.declared.output.Out.TheVariants as out
use Rattle.sip_user.specs.declared.item.Item.{Item}
use Rattle.sip_user.specs.declared.item.Item.TheVariants as item
use Rattle.sip_round.specs.Arrivals.{Arrival}
use Rattle.sip_round.specs.Arrivals as arrival
use Rattle.sip_round.specs.declared.waiting.Waiting.{Waiting}
use Rattle.sip_round.specs.declared.waiting.Waiting.TheVariants as waiting

-- what is left of an arrival after its input was set out
abbrev pub waiting_of : Arrival → Waiting
waiting_of (arrival.Transaction key input) = waiting.Transaction
waiting_of (arrival.Dropped why) = waiting.Dropped why
waiting_of (arrival.User command) = waiting.User command

abbrev pub all_waiting : List (Id × Arrival) → List (Id × Waiting)
all_waiting arrivals = map (λ a. (a.0, waiting_of a.1)) arrivals

-- its outputs; the next answer is that of the next transaction
abbrev pub outs_next : Id → Waiting → List (ℕ × List Out) → List Out
outs_next id waiting.Transaction [] = []
outs_next id waiting.Transaction (s ∷ said) = s.1
outs_next id (waiting.Dropped why) said = out.Dropped id.place why ∷ []
outs_next id (waiting.User command) said = []

abbrev pub said_rest : Waiting → List (ℕ × List Out) → List (ℕ × List Out)
said_rest waiting.Transaction [] = []
said_rest waiting.Transaction (s ∷ said) = said
said_rest (waiting.Dropped why) said = said
said_rest (waiting.User command) said = said

abbrev pub items_waiting : Id → Waiting → List (Id × Item)
items_waiting id waiting.Transaction = []
items_waiting id (waiting.Dropped why) = []
items_waiting id (waiting.User command) = (id, item.User command) ∷ []

-- for each id, the outputs and the user's command
abbrev pub by_event : List (Id × Waiting) → List (ℕ × List Out)
    → List (Id × List Out × List (Id × Item))
by_event [] said = []
by_event (w ∷ ws) said =
    (w.0, outs_next w.0 w.1 said, items_waiting w.0 w.1) ∷ by_event ws (said_rest w.1 said)
