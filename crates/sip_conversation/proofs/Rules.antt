-- What is made from messages that keep the rules keeps them too: a 100, an ACK, and a request with
-- the stamp of its source.
use Rattle.std.proofs.Common.{ℕ, Bool, true, false, cond, List, [], ◌∷◌, refl, ap, ◌∙◌, codes, decimal, arith, take}
use Rattle.std.specs.Prelude.{IsTrue, Some}
use Rattle.std.specs.List.{AllByRecursion}
use Rattle.std.specs.Str.{bytes_eq, str_eq_ignore_ascii_case}
use Rattle.sip_text.specs.Parameter.{is_parameter_value}
use Rattle.sip_text.specs.Token.{is_token, is_token_byte}
use Rattle.sip_grammar.specs.declared.parameter.Parameter.{Parameter}
use Rattle.sip_message.specs.declared.addr.Addr.{Addr}
use Rattle.sip_message.specs.declared.message.Message.{Message}
use Rattle.sip_message.specs.declared.via.Via.{Via}
use Rattle.sip_message.specs.HopByHop.{ack_of}
use Rattle.sip_message.specs.Ip.{ip_text}
use Rattle.sip_message.specs.Rules.{IsMessage, IsParameter, IsVia}
use Rattle.sip_message.specs.Source.{asks_port, stamped, stamped_parameters, stamped_via, stamped_vias, with_port, with_received, with_value}
use Rattle.sip_message.specs.Via.{are_vias, has_cookie}
use Rattle.sip_message.proofs.Stamps.{ip_is_value, port_is_value, stamp_leaves}
use Rattle.sip_transactions.specs.Steps.Output.{trying_of}
use Rattle.sip_conversation.proofs.Addresses.{octet}
use Rattle.sip_message.specs.Addr.{IsAddr}

-- ---- a 100

pub trying_keeps : (request : Message) → IsMessage request → IsMessage (trying_of request)
trying_keeps request rules = record {
  start = (omega arith, omega arith, refl);
  top = rules.top;
  vias = rules.vias;
  max_forwards = tt;
  from = rules.from;
  to = rules.to;
  call_id = rules.call_id;
  number = rules.number;
  method = rules.method;
  contacts = tt;
  record_routes = tt;
  routes = tt;
  require = tt;
  supported = tt;
  rseq = tt;
  rack = tt;
  others = tt;
}

-- ---- an ACK

first_via : (vias : List Via) → IsTrue (are_vias vias) → AllByRecursion IsVia vias
    → IsTrue (are_vias (take 1 vias)) × AllByRecursion IsVia (take 1 vias)
unfolding are_vias
first_via [] top all = (top, tt)
first_via (via ∷ vias) top all = (top, (all.0, tt))

ack_method : IsTrue (is_token (codes "ACK"))
unfolding is_token is_token_byte
ack_method = refl

pub ack_keeps : (invite response : Message) → IsMessage invite → IsMessage response
    → IsMessage (ack_of invite response)
ack_keeps invite response rules answer =
    let via = first_via invite.vias rules.top rules.vias in
    record {
      start = rules.start;
      top = via.0;
      vias = via.1;
      max_forwards = omega arith;
      from = rules.from;
      to = answer.to;
      call_id = rules.call_id;
      number = rules.number;
      method = ack_method;
      contacts = tt;
      record_routes = tt;
      routes = rules.routes;
      require = tt;
      supported = tt;
      rseq = tt;
      rack = tt;
      others = tt;
    }

-- ---- a stamp

module _ (name value : List ℕ) (token : IsTrue (is_token name))
    (good : IsTrue (is_parameter_value value)) where
  named : (here : Bool) (p : Parameter) (ps : List Parameter) → IsParameter p
      → AllByRecursion IsParameter ps → AllByRecursion IsParameter (with_value name value ps)
      → AllByRecursion IsParameter
      (cond here ((record { name = p.name; value = Some value }) ∷ ps)
      (p ∷ with_value name value ps))
  named true p ps rules others later = (record { name = rules.name; value = good }, others)
  named false p ps rules others later = (rules, later)

  value_keeps : (ps : List Parameter) → AllByRecursion IsParameter ps
      → AllByRecursion IsParameter (with_value name value ps)
  value_keeps [] all = (record { name = token; value = good }, tt)
  value_keeps (p ∷ ps) all =
      named (str_eq_ignore_ascii_case p.name name) p ps all.0 all.1 (value_keeps ps all.1)

received_token : IsTrue (is_token (codes "received"))
unfolding is_token is_token_byte
received_token = refl

rport_token : IsTrue (is_token (codes "rport"))
unfolding is_token is_token_byte
rport_token = refl

module _ (source : Addr) (address : IsAddr source) where
  received_keeps : (ps : List Parameter) → AllByRecursion IsParameter ps
      → AllByRecursion IsParameter (with_received source ps)
  received_keeps ps all =
      value_keeps (codes "received") (ip_text source.ip) received_token
      (ip_is_value source.ip (octet source.ip (address.0).1 0) (octet source.ip (address.0).1 1)
      (octet source.ip (address.0).1 2) (octet source.ip (address.0).1 3)) ps all

  port_keeps : (ps : List Parameter) → AllByRecursion IsParameter ps
      → AllByRecursion IsParameter (with_port source ps)
  port_keeps ps all =
      value_keeps (codes "rport") (decimal source.port) rport_token
      (port_is_value source.port address.1) ps all

  by_tests : (asked here : Bool) (ps : List Parameter) → AllByRecursion IsParameter ps
      → AllByRecursion IsParameter (cond asked (with_received source (with_port source ps))
      (cond here ps (with_received source ps)))
  by_tests true here ps all =
      received_keeps (with_port source ps) (port_keeps ps all)
  by_tests false true ps all = all
  by_tests false false ps all = received_keeps ps all

  stamp_keeps : (via : Via) → IsVia via → IsVia (stamped_via source via)
  unfolding stamped_parameters
  stamp_keeps via rules = record {
    transport = rules.transport;
    host = rules.host;
    port = rules.port;
    parameters = by_tests (asks_port via) (bytes_eq via.host (ip_text source.ip)) via.parameters
        rules.parameters;
  }

  vias_keep : (vias : List Via) → IsTrue (are_vias vias) → AllByRecursion IsVia vias
      → IsTrue (are_vias (stamped_vias source vias))
      × AllByRecursion IsVia (stamped_vias source vias)
  unfolding are_vias
  vias_keep [] top all = (top, all)
  vias_keep (via ∷ vias) top all = (
    ap has_cookie (stamp_leaves source (via ∷ vias) via refl) ∙ top,
    (stamp_keeps via all.0, all.1),
  )

  pub stamped_keeps : (message : Message) → IsMessage message → IsMessage (stamped message source)
  unfolding stamped
  stamped_keeps message rules =
      let vias = vias_keep message.vias rules.top rules.vias in
      record {
        start = rules.start;
        top = vias.0;
        vias = vias.1;
        max_forwards = rules.max_forwards;
        from = rules.from;
        to = rules.to;
        call_id = rules.call_id;
        number = rules.number;
        method = rules.method;
        contacts = rules.contacts;
        record_routes = rules.record_routes;
        routes = rules.routes;
        require = rules.require;
        supported = rules.supported;
        rseq = rules.rseq;
        rack = rules.rack;
        others = rules.others;
      }
