-- What the header lines of a message say together (RFC 3261, section 7.3): the values of each
-- header, in order.
use Rattle.std.specs.Prelude.{◌≡◌, ℕ, Bool, true, false, List, [], ◌∷◌, Option, find, length, nat_lt, ◌&&◌, if◌then◌else◌}
use Rattle.sip_grammar.specs.HeaderEntry.{entry, headers, is_needed, is_single}
use Rattle.sip_grammar.specs.declared.header_name.HeaderName.{HeaderName}
use Rattle.sip_grammar.specs.declared.header_name.HeaderName.TheVariants as name
use Rattle.sip_header_values.specs.Address.{AreNameAddrs, IsPartyText}
use Rattle.sip_header_values.specs.Numeral.{IsNumeral}
use Rattle.sip_header_values.specs.Sequence.{AreTokens, IsCallId, IsCSeqText, IsRAckText}
use Rattle.sip_header_values.specs.ViaValue.{AreVias}
use Rattle.sip_headers.specs.HeaderLine.{Class, bad, known, other, class_from}
use Rattle.sip_headers.specs.Named.{is_same}
use Rattle.sip_headers.specs.Slot.{IsSlot, IsList}
use Rattle.sip_headers.specs.declared.header_fields.HeaderFields.{HeaderFields}

-- the value of a line, if it is of this header, before those that follow
abbrev pub before_values : HeaderName → Class → List (List ℕ) → List (List ℕ)
before_values header bad values = values
before_values header (known named value) values =
    if is_same header named then value ∷ values else values
before_values header (other name value) values = values

-- the values of a header, in the order of its lines
abbrev pub values : HeaderName → List (List ℕ) → List (List ℕ)
values header [] = []
values header (line ∷ lines) = before_values header (class_from line) (values header lines)

-- the header of a line, if it is kept as it is, before those that follow
abbrev pub before_others : Class → List (List ℕ × List ℕ) → List (List ℕ × List ℕ)
before_others (other name value) others = (name, value) ∷ others
before_others class others = others

abbrev pub has_no_values : List (List ℕ) → Bool
has_no_values [] = true
has_no_values (value ∷ values) = false

-- the names and values of the headers that are kept as they are
abbrev pub others_of : List (List ℕ) → List (List ℕ × List ℕ)
others_of [] = []
others_of (line ∷ lines) = before_others (class_from line) (others_of lines)

abbrev pub is_bad_class : Class → Bool → Bool
is_bad_class bad rest = true
is_bad_class class rest = rest

-- a line is no header line
abbrev pub has_bad_line : List (List ℕ) → Bool
has_bad_line [] = false
has_bad_line (line ∷ lines) = is_bad_class (class_from line) (has_bad_line lines)

-- the first mandatory header of the table that has no value
abbrev pub missing_in : List (List ℕ) → Option HeaderName
missing_in lines =
    find (λ header. is_needed (entry header).kind && has_no_values (values header lines)) headers

-- the first header of the table that has more than one value and may have one
abbrev pub repeated_in : List (List ℕ) → Option HeaderName
repeated_in lines = find (λ header. is_single (entry header).kind
    && nat_lt 1 (length (values header lines))) headers

-- The draft holds the values of each header.
pub record IsDraftOf (d : HeaderFields) (lines : List (List ℕ)) : Type 0 where
  pub bad_is : d.is_bad ≡ has_bad_line lines
  pub vias : IsList AreVias d.vias (values name.Via lines)
  pub max_forwards : IsSlot IsNumeral d.max_forwards (values name.MaxForwards lines)
  pub from : IsSlot IsPartyText d.from (values name.From lines)
  pub to : IsSlot IsPartyText d.to (values name.To lines)
  pub call_id : IsSlot IsCallId d.call_id (values name.CallId lines)
  pub cseq : IsSlot IsCSeqText d.cseq (values name.CSeq lines)
  pub contacts : IsList AreNameAddrs d.contacts (values name.Contact lines)
  pub record_routes : IsList AreNameAddrs d.record_routes (values name.RecordRoute lines)
  pub routes : IsList AreNameAddrs d.routes (values name.Route lines)
  pub require : IsList AreTokens d.require (values name.Require lines)
  pub supported : IsList AreTokens d.supported (values name.Supported lines)
  pub rseq : IsSlot IsNumeral d.rseq (values name.RSeq lines)
  pub rack : IsSlot IsRAckText d.rack (values name.RAck lines)
  pub content_length : IsSlot IsNumeral d.content_length
      (values name.ContentLength lines)
