-- Each header that is written for a message is taken into the draft.
use Rattle.std.proofs.Common.{◌≡◌, ℕ, ◌^◌, ◌<◌, List, [], ◌∷◌, ◌++◌, map, length, codes, decimal, Option, Some, None, refl, sym, ap, subst}
use Rattle.std.specs.Prelude.{IfSome, IsTrue}
use Rattle.std.specs.List.{flat_map, AllByRecursion}
use Rattle.std.specs.Option.{option_map}
use Rattle.sip_text.specs.Token.{is_token}
use Rattle.sip_grammar.specs.declared.header_name.HeaderName.TheVariants as name
use Rattle.sip_message.specs.declared.header.Header.{Header}
use Rattle.sip_message.specs.declared.message.Message.{Message}
use Rattle.sip_message.specs.declared.name_addr.NameAddr.{NameAddr}
use Rattle.sip_message.specs.declared.party.Party.{Party}
use Rattle.sip_message.specs.declared.rack.RAck.{RAck}
use Rattle.sip_message.specs.Written.{header_line, via_line, via_text, party_line, contact_line, contact_text, address_line, address_text, number_line, tokens_line, joined, cseq_text, rack_line, rack_text, other_line}
use Rattle.sip_header_values.specs.Address.{name_addrs_from, party_from}
use Rattle.sip_header_values.specs.Numeral.{numeral_from}
use Rattle.sip_header_values.specs.Sequence.{call_id_from, cseq_from, rack_from, tokens_from}
use Rattle.sip_header_values.specs.ViaValue.{vias_from}
use Rattle.sip_header_values.specs.declared.numeral.Numeral.{Numeral}
use Rattle.sip_header_values.specs.declared.numeral.Numeral.TheVariants.{Number}
use Rattle.sip_header_values.specs.declared.via.ViaDraft.{ViaDraft}
use Rattle.sip_headers.specs.Complete.{slot_of, draft_with}
use Rattle.sip_headers.specs.HeaderFields.{no_header_fields}
use Rattle.sip_headers.specs.Numbers.{via_draft, rack_draft, headers_with}
use Rattle.sip_headers.specs.Slot.{met, listed}
use Rattle.sip_headers.specs.declared.header_fields.HeaderFields.{HeaderFields}
use Rattle.sip_headers.specs.declared.slot.Slot.{Slot}
use Rattle.sip_headers.specs.declared.slot.Slot.TheVariants.{Absent, Once}
use Rattle.sip_message.specs.Rules.{IsParty, IsNameAddr, IsRAck, IsVia, IsOtherHeader, IsMessage}
use Rattle.sip_reader.proofs.WrittenLines.{Ready, Goes, no_lines, goes_to, header_goes, other_goes, list_goes}
use Rattle.sip_grammar.proofs.TextEnds.{Again}
use Rattle.sip_headers.proofs.WrittenAddresses.{party_again, name_addr_again, contact_again}
use Rattle.sip_headers.proofs.WrittenNumbers.{number_again, call_id_again, cseq_again, rack_again}
use Rattle.sip_headers.proofs.WrittenTokens.{tokens_again}
use Rattle.sip_headers.proofs.WrittenVias.{via_again}

-- ---- one header after another

slot_goes : {X : Type 0} (put : Slot X → HeaderFields) (f : List ℕ → Option X) (x : X)
    (text value rest : List ℕ) → Again f x value
    → Goes (put Absent) text (put (met Absent (f value))) rest
    → Goes (put Absent) text (put (Once x)) rest
slot_goes put f x text value rest again goes =
    goes_to (ap (λ o. put (met Absent o)) again.read) goes

more_goes : {X : Type 0} (put : Option (List X) → HeaderFields) (f : List ℕ → Option (List X))
    (front more : List X) (text value rest : List ℕ) → Again f more value
    → Goes (put (Some front)) text (put (listed (Some front) (f value))) rest
    → Goes (put (Some front)) text (put (Some (front ++ more))) rest
more_goes put f front more text value rest again goes =
    goes_to (ap (λ o. put (listed (Some front) o)) again.read) goes

-- a number if there is one
abbrev numbered : Option ℕ → Slot Numeral
numbered n = slot_of (option_map (λ x. Number x) n)

number_goes : (put : Slot Numeral → HeaderFields) (line : ℕ → List ℕ) (text : Option ℕ → List ℕ)
    → (text None ≡ []) → ((n : ℕ) → text (Some n) ≡ line n)
    → ((n : ℕ) (rest : List ℕ) → n < 2 ^ 32 → Ready rest
    → Goes (put Absent) (line n ++ rest) (put (Once (Number n))) rest)
    → (n : Option ℕ) (rest : List ℕ) → IfSome n (λ x. x < 2 ^ 32) → Ready rest
    → Goes (put Absent) (text n ++ rest) (put (numbered n)) rest
number_goes put line text none some step None rest lt ready =
    subst (λ (xs : List ℕ). Goes (put Absent) (xs ++ rest) (put Absent) rest) (sym none)
    (no_lines (put Absent) (put Absent) rest refl ready)
number_goes put line text none some step (Some n) rest lt ready =
    subst (λ (xs : List ℕ). Goes (put Absent) (xs ++ rest) (put (Once (Number n))) rest)
    (sym (some n)) (step n rest lt ready)

abbrev IsToken : List ℕ → Type 0
IsToken token = IsTrue (is_token token)

tokens_go : (put : Option (List (List ℕ)) → HeaderFields) (line : List ℕ → List (List ℕ) → List ℕ)
    (text : List (List ℕ) → List ℕ) → (text [] ≡ [])
    → ((t : List ℕ) (ts : List (List ℕ)) → text (t ∷ ts) ≡ line t ts)
    → ((t : List ℕ) (ts : List (List ℕ)) (rest : List ℕ) → IsToken t → AllByRecursion IsToken ts
    → Ready rest → Goes (put (Some [])) (line t ts ++ rest) (put (Some (t ∷ ts))) rest)
    → (tokens : List (List ℕ)) (rest : List ℕ) → AllByRecursion IsToken tokens → Ready rest
    → Goes (put (Some [])) (text tokens ++ rest) (put (Some tokens)) rest
tokens_go put line text none some step [] rest all ready =
    subst (λ (xs : List ℕ). Goes (put (Some [])) (xs ++ rest) (put (Some [])) rest) (sym none)
    (no_lines (put (Some [])) (put (Some [])) rest refl ready)
tokens_go put line text none some step (t ∷ ts) rest all ready =
    subst (λ (xs : List ℕ). Goes (put (Some [])) (xs ++ rest) (put (Some (t ∷ ts))) rest)
    (sym (some t ts)) (step t ts rest all.0 all.1 ready)

-- ---- the drafts on the way

abbrev with_vias : Message → Option (List ViaDraft) → HeaderFields
with_vias m o = record no_header_fields { vias = o }

abbrev with_hops : Message → Slot Numeral → HeaderFields
with_hops m s = record (with_vias m (Some (map via_draft m.vias))) { max_forwards = s }

abbrev pub with_from : Message → Slot Party → HeaderFields
with_from m s = record (with_hops m (numbered m.max_forwards)) { from = s }

abbrev with_to : Message → Slot Party → HeaderFields
with_to m s = record (with_from m (Once m.from)) { to = s }

abbrev with_call_id : Message → Slot (List ℕ) → HeaderFields
with_call_id m s = record (with_to m (Once m.to)) { call_id = s }

abbrev pub identified : Message → HeaderFields
identified m = record (with_call_id m (Once m.call_id))
    { cseq = Once (record { number = Number m.cseq.number; method = m.cseq.method }) }

abbrev with_contacts : Message → Option (List NameAddr) → HeaderFields
with_contacts m o = record (identified m) { contacts = o }

abbrev with_record_routes : Message → Option (List NameAddr) → HeaderFields
with_record_routes m o = record (with_contacts m (Some m.contacts)) { record_routes = o }

abbrev pub with_routes : Message → Option (List NameAddr) → HeaderFields
with_routes m o = record (with_record_routes m (Some m.record_routes)) { routes = o }

abbrev with_require : Message → Option (List (List ℕ)) → HeaderFields
with_require m o = record (with_routes m (Some m.routes)) { require = o }

abbrev with_supported : Message → Option (List (List ℕ)) → HeaderFields
with_supported m o = record (with_require m (Some m.require)) { supported = o }

abbrev with_rseq : Message → Slot Numeral → HeaderFields
with_rseq m s = record (with_supported m (Some m.supported)) { rseq = s }

abbrev pub with_rack : Message → Option RAck → HeaderFields
with_rack m o = record (with_rseq m (numbered m.rseq)) { rack = slot_of (option_map rack_draft o) }

abbrev with_others : Message → Option (List Header) → HeaderFields
with_others m o = record (with_rack m m.rack) { others = o }

-- ---- each header

same_list : {X : Type 0} (xs : List X) → map (λ x. x) xs ≡ xs
same_list [] = refl
same_list (x ∷ xs) = ap (λ ys. x ∷ ys) (same_list xs)

pub vias_go : (m : Message) (rest : List ℕ) → AllByRecursion IsVia m.vias → Ready rest
    → Goes no_header_fields (flat_map via_line m.vias ++ rest) (with_hops m Absent) rest
vias_go m rest all ready =
    list_goes (with_vias m) via_line via_draft IsVia
    (λ front v r is ok. let again = via_again v is in
    more_goes (with_vias m) vias_from front (via_draft v ∷ []) (via_line v ++ r)
    (via_text v) r again (header_goes (with_vias m (Some front)) name.Via
    (via_text v) r again.good ok))
    [] m.vias rest all ready

pub hops_go : (m : Message) (rest : List ℕ) → IfSome m.max_forwards (λ n. n < 2 ^ 32) → Ready rest
    → Goes (with_hops m Absent) (number_line (codes "Max-Forwards") m.max_forwards ++ rest)
    (with_from m Absent) rest
hops_go m rest lt ready =
    number_goes (with_hops m) (λ n. header_line (codes "Max-Forwards") (decimal n))
    (number_line (codes "Max-Forwards")) refl (λ n. refl)
    (λ n r small ok. let again = number_again n small in
    slot_goes (with_hops m) numeral_from (Number n)
    (header_line (codes "Max-Forwards") (decimal n) ++ r) (decimal n) r again
    (header_goes (with_hops m Absent) name.MaxForwards (decimal n) r again.good ok))
    m.max_forwards rest lt ready

pub from_goes : (m : Message) (rest : List ℕ) → IsParty m.from → Ready rest
    → Goes (with_from m Absent) (party_line (codes "From") m.from ++ rest) (with_to m Absent) rest
from_goes m rest is ready =
    let again = party_again m.from is in
    let value = address_text m.from.display m.from.uri m.from.parameters in
    slot_goes (with_from m) party_from m.from
    (party_line (codes "From") m.from ++ rest) value rest again
    (header_goes (with_from m Absent) name.From value rest again.good ready)

pub to_goes : (m : Message) (rest : List ℕ) → IsParty m.to → Ready rest
    → Goes (with_to m Absent) (party_line (codes "To") m.to ++ rest) (with_call_id m Absent) rest
to_goes m rest is ready =
    let again = party_again m.to is in
    let value = address_text m.to.display m.to.uri m.to.parameters in
    slot_goes (with_to m) party_from m.to (party_line (codes "To") m.to ++ rest) value rest again
    (header_goes (with_to m Absent) name.To value rest again.good ready)

pub call_id_goes : (m : Message) (rest : List ℕ) → IsMessage m → Ready rest
    → Goes (with_call_id m Absent) (header_line (codes "Call-ID") m.call_id ++ rest)
    (with_call_id m (Once m.call_id)) rest
call_id_goes m rest is ready =
    let again = call_id_again m.call_id is.call_id in
    slot_goes (with_call_id m) call_id_from m.call_id
    (header_line (codes "Call-ID") m.call_id ++ rest) m.call_id rest again
    (header_goes (with_call_id m Absent) name.CallId m.call_id rest again.good ready)

pub cseq_goes : (m : Message) (rest : List ℕ) → IsMessage m → Ready rest
    → Goes (with_call_id m (Once m.call_id)) (header_line (codes "CSeq") (cseq_text m.cseq) ++ rest)
    (identified m) rest
cseq_goes m rest is ready =
    let again = cseq_again m.cseq is.number is.method in
    slot_goes (λ s. record (with_call_id m (Once m.call_id)) { cseq = s }) cseq_from
    (record { number = Number m.cseq.number; method = m.cseq.method })
    (header_line (codes "CSeq") (cseq_text m.cseq) ++ rest) (cseq_text m.cseq) rest again
    (header_goes (with_call_id m (Once m.call_id)) name.CSeq
    (cseq_text m.cseq) rest again.good ready)

pub contacts_go : (m : Message) (rest : List ℕ) → AllByRecursion IsNameAddr m.contacts → Ready rest
    → Goes (identified m) (flat_map contact_line m.contacts ++ rest)
    (with_contacts m (Some m.contacts)) rest
contacts_go m rest all ready =
    goes_to (ap (λ xs. with_contacts m (Some xs)) (same_list m.contacts))
    (list_goes (with_contacts m) contact_line (λ a. a) IsNameAddr
    (λ front a r is ok. let again = contact_again a is in
    more_goes (with_contacts m) name_addrs_from front (a ∷ []) (contact_line a ++ r)
    (contact_text a) r again
    (header_goes (with_contacts m (Some front)) name.Contact (contact_text a) r again.good ok))
    [] m.contacts rest all ready)

pub record_routes_go : (m : Message) (rest : List ℕ) → AllByRecursion IsNameAddr m.record_routes
    → Ready rest → Goes (with_contacts m (Some m.contacts))
    (flat_map (address_line (codes "Record-Route")) m.record_routes ++ rest)
    (with_record_routes m (Some m.record_routes)) rest
record_routes_go m rest all ready =
    goes_to (ap (λ xs. with_record_routes m (Some xs)) (same_list m.record_routes))
    (list_goes (with_record_routes m) (address_line (codes "Record-Route")) (λ a. a) IsNameAddr
    (λ front a r is ok. let again = name_addr_again a is in
    more_goes (with_record_routes m) name_addrs_from front (a ∷ [])
    (address_line (codes "Record-Route") a ++ r)
    (address_text a.display a.uri a.parameters) r again
    (header_goes (with_record_routes m (Some front)) name.RecordRoute
    (address_text a.display a.uri a.parameters) r again.good ok))
    [] m.record_routes rest all ready)

pub routes_go : (m : Message) (rest : List ℕ) → AllByRecursion IsNameAddr m.routes → Ready rest
    → Goes (with_record_routes m (Some m.record_routes))
    (flat_map (address_line (codes "Route")) m.routes ++ rest) (with_routes m (Some m.routes)) rest
routes_go m rest all ready =
    goes_to (ap (λ xs. with_routes m (Some xs)) (same_list m.routes))
    (list_goes (with_routes m) (address_line (codes "Route")) (λ a. a) IsNameAddr
    (λ front a r is ok. let again = name_addr_again a is in
    more_goes (with_routes m) name_addrs_from front (a ∷ [])
    (address_line (codes "Route") a ++ r) (address_text a.display a.uri a.parameters) r again
    (header_goes (with_routes m (Some front)) name.Route
    (address_text a.display a.uri a.parameters) r again.good ok))
    [] m.routes rest all ready)

pub require_goes : (m : Message) (rest : List ℕ) → AllByRecursion IsToken m.require → Ready rest
    → Goes (with_routes m (Some m.routes)) (tokens_line (codes "Require") m.require ++ rest)
    (with_require m (Some m.require)) rest
require_goes m rest all ready =
    tokens_go (with_require m) (λ t ts. header_line (codes "Require") (joined t ts))
    (tokens_line (codes "Require")) refl (λ t ts. refl)
    (λ t ts r is more ok. let again = tokens_again t ts is more in
    more_goes (with_require m) tokens_from [] (t ∷ ts)
    (header_line (codes "Require") (joined t ts) ++ r) (joined t ts) r again
    (header_goes (with_require m (Some [])) name.Require (joined t ts) r again.good ok))
    m.require rest all ready

pub supported_goes : (m : Message) (rest : List ℕ) → AllByRecursion IsToken m.supported → Ready rest
    → Goes (with_require m (Some m.require)) (tokens_line (codes "Supported") m.supported ++ rest)
    (with_supported m (Some m.supported)) rest
supported_goes m rest all ready =
    tokens_go (with_supported m) (λ t ts. header_line (codes "Supported") (joined t ts))
    (tokens_line (codes "Supported")) refl (λ t ts. refl)
    (λ t ts r is more ok. let again = tokens_again t ts is more in
    more_goes (with_supported m) tokens_from [] (t ∷ ts)
    (header_line (codes "Supported") (joined t ts) ++ r) (joined t ts) r again
    (header_goes (with_supported m (Some [])) name.Supported (joined t ts) r again.good ok))
    m.supported rest all ready

pub rseq_goes : (m : Message) (rest : List ℕ) → IfSome m.rseq (λ n. n < 2 ^ 32) → Ready rest
    → Goes (with_rseq m Absent) (number_line (codes "RSeq") m.rseq ++ rest)
    (with_rseq m (numbered m.rseq)) rest
rseq_goes m rest lt ready =
    number_goes (with_rseq m) (λ n. header_line (codes "RSeq") (decimal n))
    (number_line (codes "RSeq")) refl (λ n. refl)
    (λ n r small ok. let again = number_again n small in
    slot_goes (with_rseq m) numeral_from (Number n)
    (header_line (codes "RSeq") (decimal n) ++ r) (decimal n) r again
    (header_goes (with_rseq m Absent) name.RSeq (decimal n) r again.good ok))
    m.rseq rest lt ready

pub rack_goes : (m : Message) (rack : Option RAck) (rest : List ℕ) → IfSome rack IsRAck → Ready rest
    → Goes (with_rack m None) (rack_line rack ++ rest) (with_rack m rack) rest
rack_goes m None rest is ready = no_lines (with_rack m None) (with_rack m None) rest refl ready
rack_goes m (Some rack) rest is ready =
    let again = rack_again rack is in
    slot_goes (λ s. record (with_rseq m (numbered m.rseq)) { rack = s }) rack_from (rack_draft rack)
    (header_line (codes "RAck") (rack_text rack) ++ rest) (rack_text rack) rest again
    (header_goes (with_rack m None) name.RAck (rack_text rack) rest again.good ready)

pub others_go : (m : Message) (rest : List ℕ) → AllByRecursion IsOtherHeader m.others → Ready rest
    → Goes (with_rack m m.rack) (flat_map other_line m.others ++ rest)
    (with_others m (Some m.others)) rest
others_go m rest all ready =
    goes_to (ap (λ xs. with_others m (Some xs)) (same_list m.others))
    (list_goes (with_others m) other_line (λ h. h) IsOtherHeader
    (λ front h r is ok. other_goes (with_others m (Some front)) front h r is refl ok) [] m.others
    rest all ready)

pub length_goes : (m : Message) (rest : List ℕ) → length m.body < 2 ^ 32 → Ready rest
    → Goes (with_others m (Some m.others))
    (header_line (codes "Content-Length") (decimal (length m.body)) ++ rest)
    (draft_with (headers_with m (Some (length m.body)))) rest
length_goes m rest lt ready =
    let again = number_again (length m.body) lt in
    slot_goes (λ s. record (with_others m (Some m.others)) { content_length = s })
    numeral_from (Number (length m.body))
    (header_line (codes "Content-Length") (decimal (length m.body)) ++ rest)
    (decimal (length m.body)) rest again
    (header_goes (with_others m (Some m.others)) name.ContentLength
    (decimal (length m.body)) rest again.good ready)
