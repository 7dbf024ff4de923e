-- What a listener does with each datagram that comes, and how the lines to the agents end.
use Rattle.std.specs.Prelude.{◌≡◌, ℕ, ◌-◌, ◌^◌, ◌==◌, ◌≤◌, nat_le, min, Bool, true, not, ◌&&◌, List, [], ◌∷◌, ◌++◌, count_by, filter, length, map, slice_get, take, Option, Some, IfSome, if◌then◌else◌}
use Rattle.std.specs.List.{list_any}
use Rattle.std.specs.Option.{option_and_then, option_map, option_map_or}
use Rattle.sip_agents.specs.Destination.{agent_of, call_id_in}
use Rattle.sip_desk.specs.Lines.{IsEndOfLine, IsFinal, all_posted, capacity_of, posted}
use Rattle.sip_desk.specs.declared.ended.Ended.{Ended}
use Rattle.sip_desk.specs.declared.poster.Poster.{Poster}
use Rattle.sip_message.specs.Cut.{spread_shard}
use Rattle.sip_round.specs.declared.round.Event.{Event}
use Rattle.sip_round.specs.declared.round.Event.TheVariants as event
use Rattle.sip_udp.specs.Adds.{Adds}
use Rattle.sip_udp.specs.declared.inlet.Received.{Received}
use Rattle.sip_udp.specs.declared.inlet.Received.TheVariants as received

-- the datagram at the front of the buffer, if one came
abbrev pub came : Received → List ℕ → List Event
came (received.Datagram from count) buffer = event.Datagram from (take count buffer) ∷ []
came received.Nothing buffer = []
came received.Failed buffer = []

-- of 2 to 16 agents, that of the Call-ID of a datagram; otherwise, or without a Call-ID, the first
abbrev pub agent_of_datagram : ℕ → List ℕ → ℕ
agent_of_datagram agents bytes =
    if nat_le 2 agents && nat_le agents 16
    then option_map_or (agent_of spread_shard agents) (call_id_in bytes) 0 else 0

-- no other event comes to a listener
abbrev pub agent_of_event : ℕ → Event → ℕ
agent_of_event agents (event.Datagram from bytes) = agent_of_datagram agents bytes
agent_of_event agents (event.Failed key) = 0
agent_of_event agents (event.Command command) = 0

-- ---- a datagram, and whether the line of its agent had room for it

abbrev pub stands_on : ℕ → ℕ → Event × Bool → Bool
stands_on agents number (datagram, has_room) =
    has_room && (agent_of_event agents datagram == number)

abbrev pub is_lost_on : ℕ → ℕ → Event × Bool → Bool
is_lost_on agents number (datagram, has_room) =
    not has_room && (agent_of_event agents datagram == number)

abbrev pub is_lost : Event × Bool → Bool
is_lost one = not one.1

-- those that stand on the line with this number, in order
abbrev pub put_on : ℕ → ℕ → List (Event × Bool) → List Event
put_on agents number heard = map (λ one. one.0) (filter (stands_on agents number) heard)

-- With these datagrams so much was posted on the line with this number: after what stood there, all
-- of its agent but those that were lost. None is lost unless as many were posted as it has room
-- for.
pub record Posts (agents number : ℕ) (line : Poster Event) (all : List Event)
    (heard : List (Event × Bool)) : Type 0 where
  pub put : all ≡ posted line ++ put_on agents number heard
  pub full : list_any (is_lost_on agents number) heard ≡ true → capacity_of line ≤ length all

-- all that was posted on a line, by its number
abbrev pub posted_by : List (Poster Event) → ℕ → Option (List Event)
posted_by lines number = option_map posted (slice_get lines number)

-- the same, of the ends of lines; none if the desk is gone
abbrev pub ended_with : List (Option (Ended Event)) → ℕ → Option (List Event)
ended_with ends number =
    option_and_then (λ end. option_map all_posted end) (slice_get ends number)

-- What the way in gave since the begin was posted on the lines, each datagram on that of its agent,
-- and so many were lost.
pub record Hears (old new : Option (List Event)) (lines : List (Poster Event))
    (all_on : ℕ → Option (List Event)) (lost : ℕ) : Type 0 where
  pub heard : List (Event × Bool)
  pub given : Adds old new (map (λ one. one.0) heard)
  pub each : (number : ℕ) (line : Poster Event) (all : List Event)
      → slice_get lines number ≡ Some line → all_on number ≡ Some all
      → Posts (length lines) number line all heard
  pub counted : lost ≡ min (count_by is_lost heard) (2 ^ 64 - 1)

-- the end, unless the desk is gone, belongs to the line
abbrev pub EndsLine : {E : Type 0} → Poster E → Option (Ended E) → Type 0
EndsLine line end = IfSome end (λ one. IsEndOfLine line one)

-- and it shows what was posted on it
abbrev pub EndsAsPosted : {E : Type 0} → Poster E → Option (Ended E) → Type 0
EndsAsPosted line end = IfSome end (λ one. IsFinal line one)
