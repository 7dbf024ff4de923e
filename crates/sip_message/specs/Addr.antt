-- An address as text.
use Rattle.std.specs.Prelude.{ℕ, ◌<◌, ◌^◌, ◌++◌, List, codes, decimal}
use Rattle.sip_message.specs.declared.addr.Addr.{Addr}
use Rattle.sip_message.specs.Ip.{IsIp, ip_text}

-- an address and port: four numbers with dots, a colon, the port
abbrev pub addr_text : Addr → List ℕ
addr_text addr = ip_text addr.ip ++ codes ":" ++ decimal addr.port

-- an IP address, and a port below 2 ^ 16
abbrev pub IsAddr : Addr → Type 0
IsAddr address = IsIp address.ip × (address.port < 2 ^ 16)
