-- The Contact `*`, by which a REGISTER removes all bindings (RFC 3261, sections 10.2.2 and 20.10).
use Rattle.std.specs.Prelude.{Bool, ◌&&◌, codes, length, nat_eq}
use Rattle.std.specs.Str.{bytes_eq}
use Rattle.sip_message.specs.declared.name_addr.NameAddr.{NameAddr}

-- `*` stands where a URI stands
abbrev pub has_wildcard_uri : NameAddr → Bool
has_wildcard_uri address = bytes_eq address.uri (codes "*")

-- `*` alone: without display text and parameters
abbrev pub is_wildcard : NameAddr → Bool
is_wildcard address =
    has_wildcard_uri address && nat_eq (length address.display) 0
    && nat_eq (length address.parameters) 0
