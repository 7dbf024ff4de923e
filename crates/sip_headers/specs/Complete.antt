-- The first fault of a draft: a header that isn't in its form, is missing or is repeated. A draft
-- without a fault holds the headers of its lines.
use Rattle.std.specs.Prelude.{◌≡◌, ℕ, true, false, List, Option, Some, None, Result, Ok, Err, is_some, if◌then◌else◌}
use Rattle.std.specs.Option.{option_map}
use Rattle.sip_grammar.specs.declared.header_name.HeaderName.{HeaderName}
use Rattle.sip_message.specs.declared.fault.ReadFault.{ReadFault}
use Rattle.sip_message.specs.declared.fault.ReadFault.TheVariants as fault
use Rattle.sip_headers.specs.Headers.{Headers}
use Rattle.sip_headers.specs.Presence.{has_bad_header, missing, repeated}
use Rattle.sip_headers.specs.declared.header_fields.HeaderFields.{HeaderFields}
use Rattle.sip_headers.specs.declared.slot.Slot.{Slot}
use Rattle.sip_headers.specs.declared.slot.Slot.TheVariants.{Absent, Once, Twice, Bad}

-- ---- the first fault of header lines

-- a missing header comes before a repeated one
abbrev pub first_fault : Option HeaderName → Option HeaderName → Option ReadFault
first_fault (Some header) other = Some (fault.Missing header)
first_fault None (Some header) = Some (fault.Repeated header)
first_fault None None = None

-- the first fault of a draft, by its headers
unfoldable pub fault_in : HeaderFields → Option ReadFault
fault_in d = if has_bad_header d then Some fault.BadHeader else first_fault (missing d) (repeated d)

-- ---- slots

abbrev pub slot_of : {X : Type 0} → Option X → Slot X
slot_of None = Absent
slot_of (Some x) = Once x

-- the value of a header that occurred once
abbrev pub once : {X : Type 0} → Slot X → Option X
once (Once x) = Some x
once Absent = None
once Twice = None
once Bad = None

-- ---- all headers

-- each mandatory header is there once, and each list is in its form
pub record IsComplete (d : HeaderFields) : Type 0 where
  pub vias : is_some d.vias ≡ true
  pub from : is_some (once d.from) ≡ true
  pub to : is_some (once d.to) ≡ true
  pub call_id : is_some (once d.call_id) ≡ true
  pub cseq : is_some (once d.cseq) ≡ true
  pub contacts : is_some d.contacts ≡ true
  pub record_routes : is_some d.record_routes ≡ true
  pub routes : is_some d.routes ≡ true
  pub require : is_some d.require ≡ true
  pub supported : is_some d.supported ≡ true
  pub others : is_some d.others ≡ true

-- the method of the CSeq
abbrev pub method_in : HeaderFields → Option (List ℕ)
method_in d = option_map (λ cseq. cseq.method) (once d.cseq)

-- the draft of lines that have exactly these headers
abbrev pub draft_with : Headers → HeaderFields
draft_with h = record {
  is_bad = false;
  vias = Some h.vias;
  max_forwards = slot_of h.max_forwards;
  from = Once h.from;
  to = Once h.to;
  call_id = Once h.call_id;
  cseq = Once h.cseq;
  contacts = Some h.contacts;
  record_routes = Some h.record_routes;
  routes = Some h.routes;
  require = Some h.require;
  supported = Some h.supported;
  rseq = slot_of h.rseq;
  rack = slot_of h.rack;
  content_length = slot_of h.content_length;
  others = Some h.others;
}

-- the draft, if it has no fault
abbrev pub unless_fault : Option ReadFault → HeaderFields → Result HeaderFields ReadFault
unless_fault (Some e) d = Err e
unless_fault None d = Ok d

-- the draft, or its first fault
abbrev pub faultless : HeaderFields → Result HeaderFields ReadFault
faultless d = unless_fault (fault_in d) d
