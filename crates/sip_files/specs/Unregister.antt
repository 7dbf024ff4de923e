-- The Contact `*`, by which a user unregisters: where it may stand (RFC 3261, sections 10.2.2 and
-- 20.10).
use Rattle.std.specs.Prelude.{ℕ, Bool, false, not, ◌&&◌, ◌||◌, List, [], ◌∷◌, codes, count_by, nat_eq}
use Rattle.std.specs.List.{list_any}
use Rattle.std.specs.Str.{bytes_eq, str_eq_ignore_ascii_case}
use Rattle.std.specs.Str.Parse.{digits_value}
use Rattle.sip_text.specs.Number.{is_digits}
use Rattle.sip_message.specs.Wildcard.{has_wildcard_uri, is_wildcard}
use Rattle.sip_message.specs.declared.header.Header.{Header}
use Rattle.sip_message.specs.declared.name_addr.NameAddr.{NameAddr}
use Rattle.sip_user.specs.declared.command.UserCommand.{UserCommand}
use Rattle.sip_user.specs.declared.command.UserCommand.TheVariants as command
use Rattle.sip_files.specs.declared.given_headers.GivenHeaders.{GivenHeaders}

-- the command sends a REGISTER
abbrev pub is_register : UserCommand → Bool
is_register (command.Plain c) = bytes_eq c.method (codes "REGISTER")
is_register c = false

-- `*` is the only Contact, and alone
abbrev pub is_only_wildcard : List NameAddr → Bool
is_only_wildcard (contact ∷ []) = is_wildcard contact
is_only_wildcard contacts = false

-- an Expires, in any case of the letters; it has no compact name
abbrev pub is_expires : Header → Bool
is_expires header = str_eq_ignore_ascii_case header.name (codes "Expires")

-- digits that say 0
abbrev pub is_zero : List ℕ → Bool
is_zero value = is_digits value && nat_eq (digits_value 10 value) 0

-- an Expires of 0 seconds
abbrev pub is_expires_of_zero : Header → Bool
is_expires_of_zero header = is_expires header && is_zero header.value

-- there is one Expires, and it is of 0 seconds (RFC 3261, section 20.19)
abbrev pub expires_at_once : List Header → Bool
expires_at_once headers =
    nat_eq (count_by is_expires headers) 1 && list_any is_expires_of_zero headers

-- The Contacts may stand before the command: a `*` only alone, in a REGISTER that expires at once.
abbrev pub contacts_fit : GivenHeaders → UserCommand → Bool
contacts_fit headers c =
    not (list_any has_wildcard_uri headers.contacts)
    || (is_register c && is_only_wildcard headers.contacts && expires_at_once headers.others)
