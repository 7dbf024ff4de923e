-- The headers of a message: what its header lines say together, if each value is in its header's
-- form and no header is missing or occurs too often (RFC 3261, sections 7.3 and 20).
use Rattle.std.specs.Prelude.{◌≡◌, ℕ, IsTrue, List, [], ◌∷◌, Option}
use Rattle.std.specs.List.{AllZip}
use Rattle.std.specs.Option.{option_to_list}
use Rattle.sip_grammar.specs.HeaderValue.{is_header_value}
use Rattle.sip_grammar.specs.OtherName.{is_other_name}
use Rattle.sip_grammar.specs.declared.header_name.HeaderName.{HeaderName}
use Rattle.sip_grammar.specs.declared.header_name.HeaderName.TheVariants as name
use Rattle.sip_message.specs.declared.header.Header.{Header}
use Rattle.sip_message.specs.declared.name_addr.NameAddr.{NameAddr}
use Rattle.sip_message.specs.declared.party.Party.{Party}
use Rattle.sip_header_values.specs.Address.{AreNameAddrs, IsPartyText}
use Rattle.sip_header_values.specs.Numeral.{IsNumeral}
use Rattle.sip_header_values.specs.Sequence.{AreTokens, IsCallId, IsCSeqText, IsRAckText}
use Rattle.sip_header_values.specs.ViaValue.{AreVias}
use Rattle.sip_header_values.specs.declared.numeral.Numeral.{Numeral}
use Rattle.sip_header_values.specs.declared.sequence.CSeqDraft.{CSeqDraft}
use Rattle.sip_header_values.specs.declared.sequence.RAckDraft.{RAckDraft}
use Rattle.sip_header_values.specs.declared.via.ViaDraft.{ViaDraft}
use Rattle.sip_headers.specs.HeaderFields.{long_name}
use Rattle.sip_headers.specs.Named.{OfHeaderLines, others_in, values_of}
use Rattle.sip_headers.specs.Slot.{Many}

-- the headers, with words in the places of numbers
pub record Headers : Type 0 where
  pub vias : List ViaDraft
  pub max_forwards : Option Numeral
  pub from : Party
  pub to : Party
  pub call_id : List ℕ
  pub cseq : CSeqDraft
  pub contacts : List NameAddr
  pub record_routes : List NameAddr
  pub routes : List NameAddr
  pub require : List (List ℕ)
  pub supported : List (List ℕ)
  pub rseq : Option Numeral
  pub rack : Option RAckDraft
  pub content_length : Option Numeral
  pub others : List Header

-- ---- how often a header occurs

-- one line, with this value
abbrev pub One : {X : Type 0} → (X → List ℕ → Type 0) → X → List (List ℕ) → Type 0
One P x values = AllZip P (x ∷ []) values

-- one line with this value, or none
abbrev pub AtMostOne : {X : Type 0} → (X → List ℕ → Type 0) → Option X → List (List ℕ) → Type 0
AtMostOne P value values = AllZip P (option_to_list value) values

-- ---- a header that is kept as it is

-- its long name, and its value
pub record IsOther (header : Header) (parts : List ℕ × List ℕ) : Type 0 where
  pub name_is : header.name ≡ long_name parts.0
  pub value_is : header.value ≡ parts.1
  pub good_name : IsTrue (is_other_name header.name)
  pub good_value : IsTrue (is_header_value header.value)

-- ---- the table

-- The values of each header are in its form, and no more than it may have; there is a Via.
pub record AreRows (h : Headers) (values : HeaderName → List (List ℕ))
    (further : List (List ℕ × List ℕ)) : Type 0 where
  pub some_via : h.vias ≡ [] → ⊥
  pub vias : Many AreVias h.vias (values name.Via)
  pub max_forwards : AtMostOne IsNumeral h.max_forwards (values name.MaxForwards)
  pub from : One IsPartyText h.from (values name.From)
  pub to : One IsPartyText h.to (values name.To)
  pub call_id : One IsCallId h.call_id (values name.CallId)
  pub cseq : One IsCSeqText h.cseq (values name.CSeq)
  pub contacts : Many AreNameAddrs h.contacts (values name.Contact)
  pub record_routes : Many AreNameAddrs h.record_routes (values name.RecordRoute)
  pub routes : Many AreNameAddrs h.routes (values name.Route)
  pub require : Many AreTokens h.require (values name.Require)
  pub supported : Many AreTokens h.supported (values name.Supported)
  pub rseq : AtMostOne IsNumeral h.rseq (values name.RSeq)
  pub rack : AtMostOne IsRAckText h.rack (values name.RAck)
  pub content_length : AtMostOne IsNumeral h.content_length (values name.ContentLength)
  pub others : AllZip IsOther h.others further

-- all lines are header lines, and together they are these headers
abbrev pub AreHeaders : Headers → List (List ℕ) → Type 0
AreHeaders h lines =
    OfHeaderLines (λ named. AreRows h (λ header. values_of header named) (others_in named)) lines
