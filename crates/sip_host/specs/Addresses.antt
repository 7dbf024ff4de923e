-- The addresses in the values of headers (RFC 3261, sections 20.10, 20.20, 20.30, 20.34 and 20.39).
use Rattle.std.specs.Prelude.{◌≡◌, ℕ, List, ◌++◌, Option, Some, length, option_map, option_and_then}
use Rattle.std.specs.List.{slice_get}
use Rattle.sip_grammar.specs.Parameters.{parameter_named, value_named, value_or_nothing}
use Rattle.sip_grammar.specs.declared.parameter.Parameter.{Parameter}
use Rattle.sip_header_values.specs.Address.{name_addrs_from, party_from}
use Rattle.sip_message.specs.declared.name_addr.NameAddr.{NameAddr}
use Rattle.sip_message.specs.declared.party.Party.{Party}
use Rattle.sip_host.specs.Handing.{put_if}
use Rattle.sip_host.specs.declared.addresses.AddressLength.{AddressLength}

-- an address: its display text as it is written, its URI and its parameters
pub record AddressParts : Type 0 where
  pub display : List ℕ
  pub uri : List ℕ
  pub parameters : List Parameter

abbrev pub parts_of_address : NameAddr → AddressParts
parts_of_address a = record { display = a.display; uri = a.uri; parameters = a.parameters }

abbrev pub parts_of_party : Party → AddressParts
parts_of_party p = record { display = p.display; uri = p.uri; parameters = p.parameters }

-- the address with this number, from 0, in a value that is a list of them
abbrev pub address_at : List ℕ → ℕ → Option AddressParts
address_at value number = option_and_then
    (λ addresses. option_map parts_of_address (slice_get addresses number)) (name_addrs_from value)

-- that of a From or a To
abbrev pub party_in : List ℕ → Option AddressParts
party_in value = option_map parts_of_party (party_from value)

-- how long the value of the first parameter with this name is, 0 if it has none
abbrev pub value_length : List ℕ → List Parameter → Option ℕ
value_length name parameters =
    option_map (λ p. length (value_or_nothing (Some p))) (parameter_named name parameters)

-- the texts one after another: the display text, the URI, and the value of that parameter
abbrev pub texts_of : List ℕ → AddressParts → List ℕ
texts_of name parts = (parts.display ++ parts.uri) ++ value_named name parts.parameters

abbrev pub lengths_of : List ℕ → AddressParts → AddressLength
lengths_of name parts = record {
  display = length parts.display;
  uri = length parts.uri;
  value = value_length name parts.parameters;
}

-- the lengths are told, and the texts go to the beginning of the buffer, if they fit; nothing is told
-- and put if there is no address
pub record TellsAddress (address : Option AddressParts) (name before after : List ℕ)
    (told : Option AddressLength) : Type 0 where
  pub lengths : told ≡ option_map (lengths_of name) address
  pub put : after ≡ put_if (option_map (texts_of name) address) before
