-- What is true of a transaction that the user gives up.
use Rattle.std.specs.Prelude.{◌≡◌, ℕ, List, [], ◌∷◌, Option, None}
use Rattle.keyed_machine.specs.Machine.{Machine, Timed, given_at}
use Rattle.sip_message.specs.declared.addr.Addr.{Addr}
use Rattle.sip_message.specs.declared.id.Id.{Id}
use Rattle.sip_message.specs.declared.key.Key.{Key}
use Rattle.sip_message.specs.declared.key.Key.TheVariants as key
use Rattle.sip_message.specs.declared.message.Message.{Message}
use Rattle.sip_message.specs.declared.start_line.StartLine.TheVariants as start
use Rattle.sip_transactions.specs.declared.input.Input.{Input}
use Rattle.sip_transactions.specs.declared.input.Input.TheVariants.{Abandon}
use Rattle.sip_transactions.specs.declared.life.Life.{Life}
use Rattle.sip_transactions.specs.declared.output.DropReason.TheVariants.{NoTransaction}
use Rattle.sip_transactions.specs.declared.output.Out.{Out}
use Rattle.sip_transactions.specs.declared.output.Out.TheVariants.{Dropped}
use Rattle.sip_transactions.specs.Shard.{receipt}

-- it ends, whatever its state, and nothing is sent, handed up or dropped
abbrev pub AbandonEnds : Machine Key Life (Timed Input) Out → Type 0
AbandonEnds machine = (key : Key) (held : Option Life) (now : ℕ)
    → machine.step key held (given_at now Abandon) ≡ (None, [])

-- a response to a client transaction that comes afterwards is dropped
abbrev pub LateResponseIsDropped : Machine Key Life (Timed Input) Out → Type 0
LateResponseIsDropped machine = (branch method : List ℕ) (held : Option Life) (now later : ℕ)
    (id : Id) (response : Message) (reply_to : Addr) (status : ℕ) (reason : List ℕ)
    → response.start ≡ start.Response status reason
    → machine.step (key.Client branch method)
    (machine.step (key.Client branch method) held (given_at now Abandon)).0
    (receipt id response reply_to later) ≡ (None, Dropped id.place NoTransaction ∷ [])
