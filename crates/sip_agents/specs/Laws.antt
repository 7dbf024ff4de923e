-- Laws of several agents: no two make the same name, the header by which a datagram is cut says what
-- its message says, and a failed send that every agent is told of is heeded by one.
use Rattle.std.specs.Prelude.{◌≡◌, ◌<◌, ◌+◌, ◌^◌, ℕ, List, [], None, Some, Ok}
use Rattle.sip_clients.specs.Name.{name_of}
use Rattle.sip_message.specs.declared.id.Id.{Id}
use Rattle.sip_message.specs.declared.key.Key.{Key}
use Rattle.sip_message.specs.declared.message.Message.{Message}
use Rattle.sip_reader.specs.ReadMessage.{message_at}
use Rattle.sip_round.specs.declared.config.Config.{Config}
use Rattle.sip_transactions.specs.Machine.{transaction_machine}
use Rattle.sip_transactions.specs.Shard.{failed_send}
use Rattle.sip_agents.specs.Destination.{call_id_in}
use Rattle.sip_agents.specs.Stripes.{agent_of_id, config_of}

-- the ids of an agent say which agent it is
abbrev pub EachIdSaysItsAgent : Type 0
EachIdSaysItsAgent = (config : Config) (number round place : ℕ) → config.first + round < 2 ^ 58
    → agent_of_id (record { round = (config_of config number).first + round; place = place })
    ≡ number

-- equal names are of one agent
abbrev pub NamesOfAgentsDiffer : Type 0
NamesOfAgentsDiffer = (seed : List ℕ) (id other : Id) (index other_index : ℕ)
    → id.round < 2 ^ 64 → other.round < 2 ^ 64 → id.place < 2 ^ 64 → other.place < 2 ^ 64
    → index < 16 → other_index < 16
    → name_of seed id index ≡ name_of seed other other_index
    → agent_of_id id ≡ agent_of_id other

-- a datagram that is a message is cut by the Call-ID of the message
abbrev pub CallIdOfEachMessage : Type 0
CallIdOfEachMessage = (bytes : List ℕ) (m : Message) → message_at bytes ≡ Ok m
    → call_id_in bytes ≡ Some m.call_id

-- a failed send of a transaction that isn't held changes nothing and says nothing
abbrev pub FailureElsewhereDoesNothing : Type 0
FailureElsewhereDoesNothing = (key : Key) (id : Id) (now : ℕ)
    → transaction_machine.step key None (failed_send id now) ≡ (None, [])
