-- What a shard of transactions holds, and what its functions give to one transaction.
use Rattle.std.specs.Prelude.{ℕ, Bool, not, ◌&&◌, Option, None, Some, if◌then◌else◌}
use Rattle.sip_message.specs.declared.addr.Addr.{Addr}
use Rattle.sip_message.specs.declared.id.Id.{Id}
use Rattle.sip_message.specs.declared.key.Key.{Key}
use Rattle.sip_message.specs.declared.message.Message.{Message}
use Rattle.sip_message.specs.Key.{key_cmp}
use Rattle.sip_message.specs.MessageKey.{key_of_message}
use Rattle.sip_message.specs.TopVia.{is_sent_by_of}
use Rattle.sip_message.specs.Message.{is_request_message}
use Rattle.sip_transactions.specs.declared.input.Command.{Command}
use Rattle.sip_transactions.specs.declared.input.Command.TheVariants as command
use Rattle.sip_transactions.specs.declared.input.Input.TheVariants.{Receive, Start, Answer, Failed, Abandon}
use Rattle.sip_transactions.specs.declared.input.Input.{Input}
use Rattle.keyed_machine.specs.Machine.{Timed, given_at}
use Rattle.sip_transactions.specs.declared.life.Life.{Life}
use Rattle.keyed_machine.specs.Table.{Held, state_at}

-- a response whose top Via names a sender other than the agent (RFC 3261, section 18.1.2)
abbrev pub is_stray : Addr → Message → Bool
is_stray local message = not (is_request_message message) && not (is_sent_by_of message local)

-- the transaction of a message (17.1.3, 17.2.3; an ACK: that of its INVITE); a stray has none
abbrev pub keyed_input : Addr → Id → Message → Addr → Option (Key × Input)
keyed_input local id message reply_to =
    if is_stray local message then None
    else Some (key_of_message message, Receive id message reply_to)

-- the transaction that a command is for
abbrev pub command_key : Command → Key
command_key (command.Start key call_id message to) = key
command_key (command.Answer key message) = key
command_key (command.Abandon key) = key

-- what a command is to its transaction
abbrev pub asked_by : Id → Command → Input
asked_by id (command.Start key call_id message to) = Start id call_id message to
asked_by id (command.Answer key message) = Answer id message
asked_by id (command.Abandon key) = Abandon

-- ---- for steps and laws: `run` needs nothing of what follows

-- the agent's address, and the held lives by key (`None` if the shard is broken)
pub record Lives : Type 0 where
  pub local : Addr
  pub held : Held Key Life

-- the life that is held for a key
abbrev pub life_at : Lives → Key → Option Life
life_at shard key = state_at key_cmp shard.held key

-- a message that came, a command and a failure, as inputs of one transaction
abbrev pub receipt : Id → Message → Addr → ℕ → Timed Input
receipt id message reply_to now = given_at now (Receive id message reply_to)

abbrev pub failed_send : Id → ℕ → Timed Input
failed_send id now = given_at now (Failed id)

abbrev pub order : Id → Command → ℕ → Timed Input
order id command now = given_at now (asked_by id command)
