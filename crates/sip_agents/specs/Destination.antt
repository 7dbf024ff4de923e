-- Which agent an event is for: that of its Call-ID, with its case (RFC 3261, section 8.1.1.4).
use Rattle.std.specs.Prelude.{ℕ, nat_eq, Bool, true, List, drop, Option, codes}
use Rattle.std.specs.List.{slice_get}
use Rattle.std.specs.Option.{option_map_or}
use Rattle.sip_reader.specs.Steps.ReadHead.{head_at, values_at}
use Rattle.sip_round.specs.declared.round.Event.{Event}
use Rattle.sip_round.specs.declared.round.Event.TheVariants as event
use Rattle.sip_user.specs.Command.{call_of_command}
use Rattle.sip_agents.specs.declared.destination.Destination.{Destination}
use Rattle.sip_agents.specs.declared.destination.Destination.TheVariants.{All, One}

-- the first value of a header Call-ID in the head of a text, if it has one; by the law
-- `call_id_of_each_message` that of a message is its Call-ID
unfoldable pub call_id_in : List ℕ → Option (List ℕ)
call_id_in bytes = slice_get (values_at (codes "Call-ID") (drop 1 (head_at bytes))) 0

-- the agent of a Call-ID, among so many, by the way in which these are cut
abbrev pub agent_of : (List ℕ → ℕ → ℕ) → ℕ → List ℕ → ℕ
agent_of shard_of agents call_id = shard_of call_id agents

-- a datagram without a Call-ID is for the first agent; a failed send, of which nothing but the key
-- of its transaction is known, is for all
abbrev pub destination : (List ℕ → ℕ) → Event → Destination
destination agent (event.Datagram from bytes) = One (option_map_or agent (call_id_in bytes) 0)
destination agent (event.Command command) = One (agent (call_of_command command))
destination agent (event.Failed key) = All

-- an event with this destination is for the agent with this number
abbrev pub is_for : ℕ → Destination → Bool
is_for number (One agent) = nat_eq agent number
is_for number All = true
