-- The header lines of a message, by header (RFC 3261, section 7.3).
use Rattle.std.specs.Prelude.{ℕ, true, false, List, [], ◌∷◌, Option, Some, None, codes, fold, if◌then◌else◌}
use Rattle.std.specs.Str.{str_eq_ignore_ascii_case}
use Rattle.sip_grammar.specs.HeaderValue.{is_header_value}
use Rattle.sip_grammar.specs.OtherName.{is_other_name}
use Rattle.sip_grammar.specs.declared.header_name.HeaderName.{HeaderName}
use Rattle.sip_grammar.specs.declared.header_name.HeaderName.TheVariants as name
use Rattle.sip_message.specs.declared.header.Header.{Header}
use Rattle.sip_header_values.specs.Address.{name_addrs_from, party_from}
use Rattle.sip_header_values.specs.Numeral.{numeral_from}
use Rattle.sip_header_values.specs.Sequence.{call_id_from, cseq_from, rack_from, tokens_from}
use Rattle.sip_header_values.specs.ViaValue.{vias_from}
use Rattle.sip_headers.specs.HeaderLine.{Class, bad, known, other, class_from}
use Rattle.sip_headers.specs.Slot.{met, listed}
use Rattle.sip_headers.specs.declared.header_fields.HeaderFields.{HeaderFields}
use Rattle.sip_headers.specs.declared.slot.Slot.TheVariants.{Absent}

-- before the first header line
abbrev pub no_header_fields : HeaderFields
no_header_fields = record {
  is_bad = false;
  vias = Some [];
  max_forwards = Absent;
  from = Absent;
  to = Absent;
  call_id = Absent;
  cseq = Absent;
  contacts = Some [];
  record_routes = Some [];
  routes = Some [];
  require = Some [];
  supported = Some [];
  rseq = Absent;
  rack = Absent;
  content_length = Absent;
  others = Some [];
}

-- a draft with one more value of a header
abbrev pub with_value : HeaderFields → HeaderName → List ℕ → HeaderFields
with_value d name.Via value = record d { vias = listed d.vias (vias_from value) }
with_value d name.MaxForwards value =
    record d { max_forwards = met d.max_forwards (numeral_from value) }
with_value d name.From value = record d { from = met d.from (party_from value) }
with_value d name.To value = record d { to = met d.to (party_from value) }
with_value d name.CallId value = record d { call_id = met d.call_id (call_id_from value) }
with_value d name.CSeq value = record d { cseq = met d.cseq (cseq_from value) }
with_value d name.Contact value = record d { contacts = listed d.contacts (name_addrs_from value) }
with_value d name.RecordRoute value =
    record d { record_routes = listed d.record_routes (name_addrs_from value) }
with_value d name.Route value = record d { routes = listed d.routes (name_addrs_from value) }
with_value d name.Require value = record d { require = listed d.require (tokens_from value) }
with_value d name.Supported value = record d { supported = listed d.supported (tokens_from value) }
with_value d name.RSeq value = record d { rseq = met d.rseq (numeral_from value) }
with_value d name.RAck value = record d { rack = met d.rack (rack_from value) }
with_value d name.ContentLength value =
    record d { content_length = met d.content_length (numeral_from value) }

-- three compact names stand for the long ones of headers that are kept as they are
unfoldable pub long_name : List ℕ → List ℕ
long_name name =
    if str_eq_ignore_ascii_case name (codes "c") then codes "Content-Type"
    else (if str_eq_ignore_ascii_case name (codes "s") then codes "Subject"
    else (if str_eq_ignore_ascii_case name (codes "e") then codes "Content-Encoding"
    else name))

-- a header that is kept as it is, under its long name, as a list of one
abbrev pub other_from : List ℕ → List ℕ → Option (List Header)
other_from name value =
    if is_other_name (long_name name)
    then (if is_header_value value
    then Some ((record { name = long_name name; value = value }) ∷ []) else None)
    else None

-- a draft with one more header that is kept as it is
abbrev pub with_other : HeaderFields → List ℕ → List ℕ → HeaderFields
with_other d name value = record d { others = listed d.others (other_from name value) }

-- a draft with one more header line
abbrev pub with_class : HeaderFields → Class → HeaderFields
with_class d bad = record d { is_bad = true }
with_class d (known header value) = with_value d header value
with_class d (other name value) = with_other d name value

-- a draft with one more line
abbrev pub with_line : HeaderFields → List ℕ → HeaderFields
with_line d line = with_class d (class_from line)

-- the draft of these lines
abbrev pub draft_of : List (List ℕ) → HeaderFields
draft_of lines = fold with_line no_header_fields lines
