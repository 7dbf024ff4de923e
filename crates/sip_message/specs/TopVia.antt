-- The top Via of a message, which says who sent it (RFC 3261, sections 18.1.1 and 18.2.1).
use Rattle.std.specs.Prelude.{ℕ, Bool, false, List, [], Option, ◌&&◌, ◌==◌, unwrap_or}
use Rattle.std.specs.List.{slice_get}
use Rattle.std.specs.Option.{option_map_or}
use Rattle.std.specs.Str.{bytes_eq}
use Rattle.sip_message.specs.declared.addr.Addr.{Addr}
use Rattle.sip_message.specs.declared.via.Via.{Via}
use Rattle.sip_message.specs.declared.message.Message.{Message}
use Rattle.sip_message.specs.Ip.{ip_text}
use Rattle.sip_message.specs.Via.{branch_of}

-- the top value; each message has one
abbrev pub top_via : Message → Option Via
top_via message = slice_get message.vias 0

-- the branch of the top Via
abbrev pub top_branch : Message → List ℕ
top_branch message = option_map_or branch_of (top_via message) []

-- the host of its sent-by
abbrev pub top_host : Message → List ℕ
top_host message = option_map_or (λ via. via.host) (top_via message) []

-- the port of the sent-by, 5060 if it is absent
abbrev pub port_of : Via → ℕ
port_of via = unwrap_or via.port 5060

-- the port of its sent-by, 5060 if it has none
abbrev pub top_port : Message → ℕ
top_port message = option_map_or port_of (top_via message) 5060

-- the top sent-by is this address, byte for byte
abbrev pub is_via_of : Addr → Via → Bool
is_via_of local via = bytes_eq via.host (ip_text local.ip) && (port_of via == local.port)

-- whether the top Via has the sent-by of this agent
unfoldable pub is_sent_by_of : Message → Addr → Bool
is_sent_by_of message local = option_map_or (is_via_of local) (top_via message) false
