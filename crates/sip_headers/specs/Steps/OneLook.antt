-- A draft whose headers all are in their form and occur as often as they may, found by one look at
-- each. It has no fault.
use Rattle.std.specs.Prelude.{Bool, true, false, not, ◌&&◌, is_some}
use Rattle.sip_headers.specs.Complete.{once}
use Rattle.sip_headers.specs.Presence.{list_presence}
use Rattle.sip_headers.specs.declared.header_fields.HeaderFields.{HeaderFields}
use Rattle.sip_headers.specs.declared.faults.Presence.{Presence}
use Rattle.sip_headers.specs.declared.faults.Presence.TheVariants.{Fitting}
use Rattle.sip_headers.specs.declared.slot.Slot.{Slot}
use Rattle.sip_headers.specs.declared.slot.Slot.TheVariants.{Absent, Once}

-- the lines are there, as often as they may be
abbrev pub is_fitting : Presence → Bool
is_fitting Fitting = true
is_fitting presence = false

-- no line, or one in the header's form
abbrev pub is_at_most_once : {X : Type 0} → Slot X → Bool
is_at_most_once Absent = true
is_at_most_once (Once x) = true
is_at_most_once slot = false

-- each mandatory header is there as it has to be
abbrev pub has_needed : HeaderFields → Bool
has_needed d =
    is_fitting (list_presence d.vias) && is_some (once d.from) && is_some (once d.to)
    && is_some (once d.call_id)
    && is_some (once d.cseq)

-- each line is a header line, and each header is there as it may be
abbrev pub is_whole : HeaderFields → Bool
is_whole d =
    not d.is_bad && is_some d.others && has_needed d && is_at_most_once d.max_forwards
    && is_at_most_once d.content_length
    && is_at_most_once d.rseq
    && is_at_most_once d.rack
    && is_some d.contacts
    && is_some d.record_routes
    && is_some d.routes
    && is_some d.require
    && is_some d.supported
