-- An address in a text: an IPv4 address and a port.
use Rattle.std.specs.Prelude.{◌≡◌, ◌⊎◌, ℕ, List, Option, Some, None}
use Rattle.sip_text.specs.Cut.{cut_at}
use Rattle.sip_text.specs.Number.{number_at}
use Rattle.sip_text.specs.Options.{◌>>=◌}
use Rattle.sip_message.specs.declared.addr.Addr.{Addr}
use Rattle.sip_message.specs.Addr.{addr_text}
use Rattle.sip_message.specs.Ip.{ip_at, ip_text}
use Rattle.sip_dialog.specs.UriText.{colon}

-- an IPv4 address, and the port behind a `:`; without one it is 5060
abbrev pub address_in : List ℕ → Option (List ℕ × List ℕ) → Option Addr
address_in text None = ip_at text >>= λ ip. Some record { ip = ip; port = 5060 }
address_in text (Some (host, port)) =
    ip_at host >>= λ ip. number_at 65535 port >>= λ number. Some record { ip = ip; port = number }

-- an IPv4 address, and the port behind a colon; without one it is 5060
unfoldable pub address_at : List ℕ → Option Addr
address_at text = address_in text (cut_at colon text)

-- `a.b.c.d:port`, or `a.b.c.d` if the port is 5060
abbrev pub IsTextOf : Addr → List ℕ → Type 0
IsTextOf address text =
    (text ≡ addr_text address) ⊎ ((address.port ≡ 5060) × (text ≡ ip_text address.ip))
