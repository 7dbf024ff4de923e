-- Where the requests of a dialog go (RFC 3261, sections 8.1.2 and 12.2.1.1).
use Rattle.std.specs.Prelude.{ℕ, Bool, not, false, List, Option, unwrap_or}
use Rattle.std.specs.List.{slice_get}
use Rattle.std.specs.Option.{option_map_or}
use Rattle.sip_message.specs.declared.addr.Addr.{Addr}
use Rattle.sip_message.specs.declared.name_addr.NameAddr.{NameAddr}
use Rattle.sip_dialog.specs.declared.dialog.Dialog.{Dialog}
use Rattle.sip_dialog.specs.UriText.{semicolon, before, host_part, is_loose}
use Rattle.sip_text.specs.Options.{◌>>=◌}
use Rattle.sip_dialog.specs.Address.{address_at}

-- whether the first route is a strict router
abbrev pub is_strict : List NameAddr → Bool
is_strict route_set =
    option_map_or (λ route. not (is_loose route.uri)) (slice_get route_set 0) false

-- the URI of the first route; without routes, the target
abbrev pub next_hop : Dialog → List ℕ
next_hop dialog = option_map_or (λ route. route.uri) (slice_get dialog.route_set 0) dialog.target

-- the address that a URI names by its host and port, if the host is an IPv4 address in dotted
-- decimal numbers
unfoldable pub address_of : List ℕ → Option Addr
address_of uri = host_part uri >>= λ part. address_at (before semicolon part)

-- the address of the next hop, or this one if the URI of the next hop names none
abbrev pub hop_of : Dialog → Addr → Addr
hop_of dialog otherwise = unwrap_or (address_of (next_hop dialog)) otherwise
