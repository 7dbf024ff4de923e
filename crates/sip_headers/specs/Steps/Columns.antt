-- A draft takes the values of each header, one column for each header.
use Rattle.std.specs.Prelude.{ℕ, Bool, List, ◌||◌, fold}
use Rattle.sip_grammar.specs.declared.header_name.HeaderName.{HeaderName}
use Rattle.sip_grammar.specs.declared.header_name.HeaderName.TheVariants as name
use Rattle.sip_header_values.specs.Address.{name_addrs_from, party_from}
use Rattle.sip_header_values.specs.Numeral.{numeral_from}
use Rattle.sip_header_values.specs.Sequence.{call_id_from, cseq_from, rack_from, tokens_from}
use Rattle.sip_header_values.specs.ViaValue.{vias_from}
use Rattle.sip_headers.specs.HeaderFields.{other_from}
use Rattle.sip_headers.specs.Slot.{listed, list_from, slot_from}
use Rattle.sip_headers.specs.declared.header_fields.HeaderFields.{HeaderFields}

abbrev pub continued : HeaderFields → Bool → (HeaderName → List (List ℕ)) → List (List ℕ × List ℕ)
    → HeaderFields
continued d bad values others = record {
  is_bad = d.is_bad || bad;
  vias = list_from vias_from d.vias (values name.Via);
  max_forwards = slot_from numeral_from d.max_forwards (values name.MaxForwards);
  from = slot_from party_from d.from (values name.From);
  to = slot_from party_from d.to (values name.To);
  call_id = slot_from call_id_from d.call_id (values name.CallId);
  cseq = slot_from cseq_from d.cseq (values name.CSeq);
  contacts = list_from name_addrs_from d.contacts (values name.Contact);
  record_routes = list_from name_addrs_from d.record_routes (values name.RecordRoute);
  routes = list_from name_addrs_from d.routes (values name.Route);
  require = list_from tokens_from d.require (values name.Require);
  supported = list_from tokens_from d.supported (values name.Supported);
  rseq = slot_from numeral_from d.rseq (values name.RSeq);
  rack = slot_from rack_from d.rack (values name.RAck);
  content_length = slot_from numeral_from d.content_length (values name.ContentLength);
  others = fold (λ list header. listed list (other_from header.0 header.1)) d.others others;
}
