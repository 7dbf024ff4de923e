-- What a request says of itself (RFC 3261, section 12.2.2; RFC 3262, section 3).
use Rattle.std.specs.Prelude.{◌≡◌, ℕ, List, Option, None, Some, IfSome, IsSome, if◌then◌else◌}
use Rattle.sip_message.specs.Message.{is_request_message}
use Rattle.sip_message.specs.declared.message.Message.{Message}
use Rattle.sip_held_dialogs.specs.Requests.{has_to_tag, requires_100rel, supports_100rel}
use Rattle.sip_reader.specs.Spells.{Spells}
use Rattle.sip_round.specs.Places.{datagram_at}
use Rattle.sip_host.specs.Hosting.{last_events}
use Rattle.sip_host.specs.declared.host.Host.{Host}
use Rattle.sip_host.specs.declared.request_traits.RequestTraits.{RequestTraits}

-- a request is in a dialog if its To has a tag; a response has no traits
abbrev pub traits_of : Message → Option RequestTraits
traits_of message = if is_request_message message then Some (record {
  is_in_dialog = has_to_tag message;
  supports_100rel = supports_100rel message;
  requires_100rel = requires_100rel message;
}) else None

-- the traits of the message that a text spells; a text that spells none has none
pub record TellsTraits (bytes : List ℕ) (traits : Option RequestTraits) : Type 0 where
  pub told : (message : Message) → Spells message bytes → traits ≡ traits_of message
  pub message : IsSome traits → (message : Message) × Spells message bytes

-- those of the datagram at a place; none if no datagram came in there
pub record TellsTraitsAt (host : Host) (place : ℕ) (traits : Option RequestTraits) : Type 0 where
  pub of_datagram : IfSome (datagram_at (last_events host) place) (λ bytes. TellsTraits bytes traits)
  pub none : datagram_at (last_events host) place ≡ None → traits ≡ None
