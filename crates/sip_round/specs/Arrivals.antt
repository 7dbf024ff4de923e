-- What the events of a round mean for the transactions and the calls (RFC 3261, sections 17, 18.1.2
-- and 18.2.1).
use Rattle.std.specs.Prelude.{suc, ℕ, List, [], ◌∷◌, Option, None, Some, Result, Ok, Err, if◌then◌else◌}
use Rattle.sip_message.specs.declared.addr.Addr.{Addr}
use Rattle.sip_message.specs.declared.id.Id.{Id}
use Rattle.sip_message.specs.declared.key.Key.{Key}
use Rattle.sip_message.specs.declared.message.Message.{Message}
use Rattle.sip_message.specs.declared.fault.ReadFault.{ReadFault}
use Rattle.sip_message.specs.Message.{is_request_message}
use Rattle.sip_message.specs.Source.{stamped, answer_address}
use Rattle.sip_reader.specs.ReadMessage.{message_at}
use Rattle.sip_transactions.specs.declared.input.Input.{Input}
use Rattle.sip_transactions.specs.declared.input.Input.TheVariants.{Failed}
use Rattle.sip_transactions.specs.declared.output.DropReason.{DropReason}
use Rattle.sip_transactions.specs.declared.output.DropReason.TheVariants.{NotOurs, Unreadable}
use Rattle.sip_transactions.specs.Shard.{keyed_input}
use Rattle.sip_user.specs.declared.command.UserCommand.{UserCommand}
use Rattle.sip_round.specs.declared.round.Event.{Event}
use Rattle.sip_round.specs.declared.round.Event.TheVariants as event

-- what an event is
pub data Arrival : Type 0 where
  -- an input of the transaction with this key: a message or a failed send
  Transaction : Key → Input → Arrival
  -- a datagram that isn't a message, or a response to another sender
  Dropped : DropReason → Arrival
  -- a command of the user, for its call
  User : UserCommand → Arrival

-- a message received is for the transaction with its key; a response to another sender is dropped
abbrev pub arrival_for : Option (Key × Input) → Arrival
arrival_for None = Dropped NotOurs
arrival_for (Some input) = Transaction input.0 input.1

-- a request is stamped with its source, which also decides the address of its answers
unfoldable pub message_arrival : Addr → Id → Addr → Message → Arrival
message_arrival local id from message =
    if is_request_message message
    then arrival_for (keyed_input local id (stamped message from) (answer_address message from))
    else arrival_for (keyed_input local id message from)

-- a datagram is the message that it spells; if it spells none, it is dropped
abbrev pub datagram_arrival : Addr → Id → Addr → Result Message ReadFault → Arrival
datagram_arrival local id from (Ok message) = message_arrival local id from message
datagram_arrival local id from (Err fault) = Dropped (Unreadable fault)

-- an event: a datagram, a failed send or a command
unfoldable pub arrival_of : Addr → Id → Event → Arrival
arrival_of local id (event.Datagram from bytes) = datagram_arrival local id from (message_at bytes)
arrival_of local id (event.Failed key) = Transaction key (Failed id)
arrival_of local id (event.Command command) = User command

-- the arrivals of a round's events, from this place on, each with the id of its event
abbrev pub arrivals_from : Addr → ℕ → ℕ → List Event → List (Id × Arrival)
arrivals_from local round place [] = []
arrivals_from local round place (e ∷ es) = (
  record { round = round; place = place },
  arrival_of local (record { round = round; place = place }) e,
)
    ∷ arrivals_from local round (suc place) es
