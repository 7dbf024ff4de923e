-- The rules that every message satisfies (RFC 3261, section 25.1).
use Rattle.std.specs.Prelude.{◌≤◌, ◌<◌, ◌^◌, IsTrue, IfSome}
use Rattle.std.specs.List.{AllByRecursion}
use Rattle.sip_text.specs.Token.{is_token}
use Rattle.sip_grammar.specs.DisplayText.{is_display_text}
use Rattle.sip_grammar.specs.HeaderValue.{is_header_value}
use Rattle.sip_grammar.specs.Host.{is_host}
use Rattle.sip_grammar.specs.OtherName.{is_other_name}
use Rattle.sip_grammar.specs.PartyDisplay.{is_party_display}
use Rattle.sip_grammar.specs.Reason.{is_reason}
use Rattle.sip_grammar.specs.Tag.{has_good_tag}
use Rattle.sip_grammar.specs.Uri.{is_uri}
use Rattle.sip_grammar.specs.Word.{is_word}
pub use Rattle.sip_grammar.specs.ParameterRules.{IsParameter}
use Rattle.sip_message.specs.Via.{are_vias}
use Rattle.sip_message.specs.declared.header.Header.{Header}
use Rattle.sip_message.specs.declared.message.Message.{Message}
use Rattle.sip_message.specs.declared.name_addr.NameAddr.{NameAddr}
use Rattle.sip_message.specs.declared.party.Party.{Party}
use Rattle.sip_message.specs.declared.rack.RAck.{RAck}
use Rattle.sip_message.specs.declared.start_line.StartLine.{StartLine}
use Rattle.sip_message.specs.declared.start_line.StartLine.TheVariants.{Request, Response}
use Rattle.sip_message.specs.declared.via.Via.{Via}

-- ---- the rules of the parts

abbrev pub IsStartLine : StartLine → Type 0
IsStartLine (Request uri) = IsTrue (is_word uri)
IsStartLine (Response status reason) = (100 ≤ status) × (status ≤ 699) × IsTrue (is_reason reason)

pub record IsVia (via : Via) : Type 0 where
  pub transport : IsTrue (is_token via.transport)
  pub host : IsTrue (is_host via.host)
  pub port : IfSome via.port (λ n. n < 2 ^ 16)
  pub parameters : AllByRecursion IsParameter via.parameters

pub record IsNameAddr (address : NameAddr) : Type 0 where
  pub display : IsTrue (is_display_text address.display)
  pub uri : IsTrue (is_uri address.uri)
  pub parameters : AllByRecursion IsParameter address.parameters

pub record IsParty (party : Party) : Type 0 where
  pub display : IsTrue (is_party_display party.display)
  pub uri : IsTrue (is_uri party.uri)
  pub parameters : AllByRecursion IsParameter party.parameters
  pub tag : IsTrue (has_good_tag party.parameters)

pub record IsOtherHeader (kept : Header) : Type 0 where
  pub name : IsTrue (is_other_name kept.name)
  pub value : IsTrue (is_header_value kept.value)

pub record IsRAck (rack : RAck) : Type 0 where
  pub rseq : rack.rseq < 2 ^ 32
  pub cseq : rack.cseq < 2 ^ 32
  pub method : IsTrue (is_token rack.method)

-- The rules that every message satisfies.
pub record IsMessage (m : Message) : Type 0 where
  pub start : IsStartLine m.start
  pub top : IsTrue (are_vias m.vias)
  pub vias : AllByRecursion IsVia m.vias
  pub max_forwards : IfSome m.max_forwards (λ n. n < 2 ^ 32)
  pub from : IsParty m.from
  pub to : IsParty m.to
  pub call_id : IsTrue (is_word m.call_id)
  pub number : m.cseq.number < 2 ^ 32
  pub method : IsTrue (is_token m.cseq.method)
  pub contacts : AllByRecursion IsNameAddr m.contacts
  pub record_routes : AllByRecursion IsNameAddr m.record_routes
  pub routes : AllByRecursion IsNameAddr m.routes
  pub require : AllByRecursion (λ token. IsTrue (is_token token)) m.require
  pub supported : AllByRecursion (λ token. IsTrue (is_token token)) m.supported
  pub rseq : IfSome m.rseq (λ n. n < 2 ^ 32)
  pub rack : IfSome m.rack IsRAck
  pub others : AllByRecursion IsOtherHeader m.others
