-- Responses that a repeat of a request has sent again, to whoever sent the request first, though the
-- repeat came from elsewhere.
use Rattle.std.specs.Prelude.{ℕ, nat_eq, Bool, false, not, ◌&&◌, List, codes, Option, Some}
use Rattle.std.specs.List.{starts_with}
use Rattle.std.specs.Str.{bytes_eq}
use Rattle.sip_round.specs.Places.{event_at}
use Rattle.sip_round.specs.declared.round.Event.{Event}
use Rattle.sip_round.specs.declared.round.Event.TheVariants as event
use Rattle.sip_round.specs.declared.output.Output.{Output}
use Rattle.sip_round.specs.declared.output.Output.TheVariants as output
use Rattle.sip_round.specs.declared.output.PlacedOutput.{PlacedOutput}

-- the text of a response (RFC 3261, section 7.2)
abbrev pub is_response_text : List ℕ → Bool
is_response_text text = starts_with nat_eq text (codes "SIP/2.0 ")

-- a response goes to another IP address than the datagram that caused it came from
abbrev pub goes_elsewhere : Option Event → Output → Bool
goes_elsewhere (Some (event.Datagram from bytes)) (output.Send key to text) =
    is_response_text text && not (bytes_eq to.ip from.ip)
goes_elsewhere cause out = false

-- so does an output of a round with these events
abbrev pub is_reflected : List Event → PlacedOutput → Bool
is_reflected events placed = goes_elsewhere (event_at events placed.place) placed.output
