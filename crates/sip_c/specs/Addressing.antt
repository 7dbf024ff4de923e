-- What C is told of an address.
use Rattle.std.specs.Prelude.{◌≡◌, ◌⊎◌, ◌+◌, ℕ, List, false, true, Option, None, Some, Result, Ok, Err, length, unwrap_or, is_some}
use Rattle.sip_host.specs.Addresses.{AddressParts, TellsAddress}
use Rattle.sip_host.specs.declared.addresses.AddressLength.{AddressLength}
use Rattle.sip_c.specs.Status.{room_answer}
use Rattle.sip_c.specs.declared.values.AddressLengths.{AddressLengths}

-- the lengths of an address; zeros if there is none, and for the value of a parameter that it hasn't
abbrev pub address_lengths_of : Option AddressLength → AddressLengths
address_lengths_of None = record {
  is_there = false;
  has_parameter = false;
  display_len = 0;
  uri_len = 0;
  value_len = 0;
}
address_lengths_of (Some told) = record {
  is_there = true;
  has_parameter = is_some told.value;
  display_len = told.display;
  uri_len = told.uri;
  value_len = unwrap_or told.value 0;
}

-- the number of the call, for a buffer with so much room
abbrev pub room_for_address : AddressLengths → ℕ → ℕ
room_for_address told room = room_answer (told.display_len + told.uri_len + told.value_len) room

abbrev pub address_told : {E : Type 0} → Result (Option AddressLength) E → AddressLengths
address_told (Ok told) = address_lengths_of told
address_told (Err fault) = address_lengths_of None

abbrev pub address_answer : {E : Type 0} → Result (Option AddressLength) E → ℕ → ℕ
address_answer (Ok told) room = room_for_address (address_lengths_of told) room
address_answer (Err fault) room = 10

-- the address is told and its texts are put into the buffer, if they fit; or memory ran out
abbrev pub GivesAddress : Option AddressParts → List ℕ → ℕ → AddressLengths → List ℕ → List ℕ
    → Type 0
GivesAddress address name number told before after =
    ((lengths : Option AddressLength) × TellsAddress address name before after lengths
    × (told ≡ address_lengths_of lengths) × (number ≡ room_for_address told (length before)))
    ⊎ ((number ≡ 10) × (told ≡ address_lengths_of None) × (after ≡ before))
