-- The source of a request (RFC 3261, section 18.2.1; RFC 3581, sections 3 and 4), and the address
-- to which the answer goes.
use Rattle.std.specs.Prelude.{Bool, false, List, [], ◌∷◌, Option, Some, None, codes, decimal, is_none, if◌then◌else◌}
use Rattle.std.specs.Option.{option_map_or}
use Rattle.std.specs.Str.{bytes_eq}
use Rattle.sip_message.specs.declared.addr.Addr.{Addr}
use Rattle.sip_grammar.specs.Parameters.{parameter_named}
pub use Rattle.sip_grammar.specs.Parameters.{with_value}
use Rattle.sip_grammar.specs.declared.parameter.Parameter.{Parameter}
use Rattle.sip_message.specs.declared.via.Via.{Via}
use Rattle.sip_message.specs.declared.message.Message.{Message}
use Rattle.sip_message.specs.Ip.{ip_text}
use Rattle.sip_message.specs.TopVia.{top_via, port_of}

-- the parameter has no value
abbrev pub is_open : Option Parameter → Bool
is_open None = false
is_open (Some p) = is_none p.value

-- the sender asks for its source port: the first `rport` has no value (RFC 3581, section 3)
abbrev pub asks_port : Via → Bool
asks_port via = is_open (parameter_named (codes "rport") via.parameters)

-- the parameters with the source's IP address as `received`
abbrev pub with_received : Addr → List Parameter → List Parameter
with_received source parameters = with_value (codes "received") (ip_text source.ip) parameters

-- the parameters with the source's port as `rport` (RFC 3581, section 4)
abbrev pub with_port : Addr → List Parameter → List Parameter
with_port source parameters = with_value (codes "rport") (decimal source.port) parameters

-- The parameters of a Via with the source of its message (RFC 3581, section 4): its port, if that
-- was asked for, and its IP address, if the port was asked for or the Via names another host.
unfoldable pub stamped_parameters : Addr → Via → List Parameter
stamped_parameters source via =
    if asks_port via then with_received source (with_port source via.parameters)
    else (if bytes_eq via.host (ip_text source.ip) then via.parameters
    else with_received source via.parameters)

-- the top Via with what is noted of the source
abbrev pub stamped_via : Addr → Via → Via
stamped_via source via = record via { parameters = stamped_parameters source via }

-- the Vias with the source in the top one
abbrev pub stamped_vias : Addr → List Via → List Via
stamped_vias source [] = []
stamped_vias source (via ∷ vias) = stamped_via source via ∷ vias

-- the message with its source in the top Via
unfoldable pub stamped : Message → Addr → Message
stamped message source = record message { vias = stamped_vias source message.vias }

-- the address of the answer: the source, or its IP address and the port of the sent-by
abbrev pub answered_at : Addr → Via → Addr
answered_at source via =
    if asks_port via then source else record { ip = source.ip; port = port_of via }

-- The address of the answer: the source, if its port was asked for; otherwise the source IP and the
-- port of the sent-by.
unfoldable pub answer_address : Message → Addr → Addr
answer_address message source = option_map_or (answered_at source) (top_via message) source
