-- Headers that are missing, or occur more often than they may (RFC 3261, sections 7.3.1 and 8.1.1).
use Rattle.std.specs.Prelude.{Bool, true, false, ◌&&◌, ◌||◌, List, [], ◌∷◌, Option, Some, None, find, is_none}
use Rattle.std.specs.List.{list_any}
use Rattle.sip_grammar.specs.HeaderEntry.{entry, headers, is_needed}
use Rattle.sip_grammar.specs.declared.header_name.HeaderName.{HeaderName}
use Rattle.sip_grammar.specs.declared.header_name.HeaderName.TheVariants as name
use Rattle.sip_headers.specs.declared.header_fields.HeaderFields.{HeaderFields}
use Rattle.sip_headers.specs.declared.faults.Presence.{Presence}
use Rattle.sip_headers.specs.declared.faults.Presence.TheVariants.{Nowhere, Fitting, Repeated, Unfit}
use Rattle.sip_headers.specs.declared.slot.Slot.{Slot}
use Rattle.sip_headers.specs.declared.slot.Slot.TheVariants.{Absent, Once, Twice, Bad}

-- the presence of a header that may occur once
abbrev pub slot_presence : {X : Type 0} → Slot X → Presence
slot_presence Absent = Nowhere
slot_presence (Once x) = Fitting
slot_presence Twice = Repeated
slot_presence Bad = Unfit

-- the presence of a header whose values are a list
abbrev pub list_presence : {X : Type 0} → Option (List X) → Presence
list_presence None = Unfit
list_presence (Some []) = Nowhere
list_presence (Some (x ∷ xs)) = Fitting

-- the presence of each header that may be missing or repeated
abbrev pub presence_of : HeaderFields → HeaderName → Presence
presence_of d name.Via = list_presence d.vias
presence_of d name.From = slot_presence d.from
presence_of d name.To = slot_presence d.to
presence_of d name.CallId = slot_presence d.call_id
presence_of d name.CSeq = slot_presence d.cseq
presence_of d name.MaxForwards = slot_presence d.max_forwards
presence_of d name.ContentLength = slot_presence d.content_length
presence_of d name.RSeq = slot_presence d.rseq
presence_of d name.RAck = slot_presence d.rack
presence_of d name.Contact = list_presence d.contacts
presence_of d name.RecordRoute = list_presence d.record_routes
presence_of d name.Route = list_presence d.routes
presence_of d name.Require = list_presence d.require
presence_of d name.Supported = list_presence d.supported

-- the header is missing
abbrev pub is_nowhere : Presence → Bool
is_nowhere Nowhere = true
is_nowhere presence = false

-- the header is repeated
abbrev pub is_repeated : Presence → Bool
is_repeated Repeated = true
is_repeated presence = false

-- a line of the header has another form
abbrev pub is_unfit : Presence → Bool
is_unfit Unfit = true
is_unfit presence = false

-- a line is no header line, or a value isn't in its header's form
abbrev pub has_bad_header : HeaderFields → Bool
has_bad_header d =
    d.is_bad || is_none d.others || list_any (λ header. is_unfit (presence_of d header)) headers

-- the first mandatory header of the table that isn't there
abbrev pub missing : HeaderFields → Option HeaderName
missing d = find (λ header. is_needed (entry header).kind && is_nowhere (presence_of d header))
    headers

-- the first header of the table that is there twice and may occur once
abbrev pub repeated : HeaderFields → Option HeaderName
repeated d = find (λ header. is_repeated (presence_of d header)) headers
