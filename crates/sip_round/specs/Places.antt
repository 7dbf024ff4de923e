-- The events of a round by their places, by which the outputs of the round name them.
use Rattle.std.specs.Prelude.{ℕ, zero, suc, List, Option, None, Some}
use Rattle.std.specs.List.{slice_get}
use Rattle.sip_round.specs.declared.round.Event.{Event}
use Rattle.sip_round.specs.declared.round.Event.TheVariants.{Command, Datagram, Failed}

-- the event at this place; places begin with 1
abbrev pub event_at : List Event → ℕ → Option Event
event_at events zero = None
event_at events (suc before) = slice_get events before

-- the bytes of an event that is a datagram
abbrev pub datagram_of : Option Event → Option (List ℕ)
datagram_of (Some (Datagram from bytes)) = Some bytes
datagram_of (Some (Failed key)) = None
datagram_of (Some (Command command)) = None
datagram_of None = None

-- the bytes of the datagram that came in at this place
abbrev pub datagram_at : List Event → ℕ → Option (List ℕ)
datagram_at events place = datagram_of (event_at events place)
