-- What is written for a message spells that message.
use Rattle.std.proofs.Common.{◌≡◌, ℕ, ◌^◌, ◌<◌, ◌≤◌, true, cond, List, [], ◌∷◌, ◌++◌, map, length, codes, decimal, Option, Some, None, Ok, Err, refl, sym, ap, ◌∙◌, append_assoc, arith}
use Rattle.std.specs.Prelude.{IfSome}
use Rattle.std.specs.List.{flat_map, AllByRecursion, list_all}
use Rattle.std.specs.Option.{option_map, option_to_list}
use Rattle.std.proofs.lemmas.Bool.{and_from, le-ltb}
use Rattle.std.proofs.lemmas.List.{append-nil, length-append}
use Rattle.std.proofs.lemmas.List.Folds.{list_all-append}
use Rattle.sip_message.specs.Via.{are_vias}
use Rattle.sip_message.specs.declared.fault.ReadFault.TheVariants as fault
use Rattle.sip_message.specs.declared.message.Message.{Message}
use Rattle.sip_message.specs.declared.rack.RAck.{RAck}
use Rattle.sip_message.specs.declared.via.Via.{Via}
use Rattle.sip_message.specs.Written.{header_line, via_line, party_line, contact_line, address_line, number_line, tokens_line, cseq_text, rack_line, other_line, head_text, identity_text, routes_text, extensions_text, content_text, written}
use Rattle.sip_header_values.specs.declared.numeral.Numeral.{Numeral}
use Rattle.sip_header_values.specs.declared.numeral.Numeral.TheVariants.{Number}
use Rattle.sip_headers.specs.Complete.{draft_with, faultless}
use Rattle.sip_headers.specs.HeaderFields.{no_header_fields}
use Rattle.sip_headers.specs.Numbers.{via_draft, rack_draft, headers_with, are_numbers}
use Rattle.sip_headers.proofs.HeaderNumbers.{is_number, is_port, port_words}
use Rattle.sip_headers.specs.declared.header_fields.HeaderFields.{HeaderFields}
use Rattle.sip_headers.specs.declared.slot.Slot.TheVariants.{Absent}
use Rattle.sip_headers.proofs.Folds.{ends_here}
use Rattle.sip_headers.proofs.FaultlessDrafts.{no_fault}
use Rattle.sip_reader.specs.ReadMessage.{◌>>=◌, message_of_draft, message_of_lines, message_in, message_at}
use Rattle.sip_reader.specs.ReadStart.{start_at}
use Rattle.sip_message.specs.Rules.{IsVia, IsMessage}
use Rattle.sip_reader.specs.SkippedEnds.{without_line_ends}
use Rattle.sip_reader.specs.Spells.{Spells}
use Rattle.sip_reader.proofs.EachHeader.{with_from, identified, with_routes, with_rack, vias_go, hops_go, from_goes, to_goes, call_id_goes, cseq_goes, contacts_go, record_routes_go, routes_go, require_goes, supported_goes, rseq_goes, rack_goes, others_go, length_goes}
use Rattle.sip_reader.proofs.Layouts.{kept, no_end}
use Rattle.sip_reader.specs.Head.{first_of}
use Rattle.sip_reader.proofs.Making.{first_spelled, body_again}
use Rattle.sip_reader.proofs.Outcomes.{step_again, result_again}
use Rattle.sip_reader.proofs.Sections.{some_gathered}
use Rattle.sip_reader.proofs.Spelled.{made_again, spelled_takes}
use Rattle.sip_reader.proofs.StartLines.{start_reads}
use Rattle.sip_reader.proofs.WrittenLines.{is_line, ended_line, Goes, end_ready, end_gathered, two_go}
use Rattle.sip_reader.proofs.WrittenStarts.{start_of, start_with_end, start_spelled, start_full, start_free}

-- ---- all headers

abbrev last_text : Message → List ℕ
last_text m = 13 ∷ (10 ∷ m.body)

abbrev content_lines : Message → List ℕ
content_lines m =
    flat_map other_line m.others ++ (header_line (codes "Content-Length") (decimal (length m.body))
    ++ last_text m)

abbrev extension_lines : Message → List ℕ
extension_lines m =
    tokens_line (codes "Require") m.require ++ (tokens_line (codes "Supported") m.supported
    ++ (number_line (codes "RSeq") m.rseq ++ (rack_line m.rack ++ content_lines m)))

abbrev route_lines : Message → List ℕ
route_lines m =
    flat_map contact_line m.contacts
    ++ (flat_map (address_line (codes "Record-Route")) m.record_routes
    ++ (flat_map (address_line (codes "Route")) m.routes ++ extension_lines m))

abbrev identity_lines : Message → List ℕ
identity_lines m =
    party_line (codes "From") m.from ++ (party_line (codes "To") m.to
    ++ (header_line (codes "Call-ID") m.call_id
    ++ (header_line (codes "CSeq") (cseq_text m.cseq) ++ route_lines m)))

abbrev header_lines : Message → List ℕ
header_lines m =
    flat_map via_line m.vias ++ (number_line (codes "Max-Forwards") m.max_forwards
    ++ identity_lines m)

abbrev whole : Message → HeaderFields
whole m = draft_with (headers_with m (Some (length m.body)))

content_goes : (m : Message) → IsMessage m → length m.body < 2 ^ 32
    → Goes (with_rack m m.rack) (content_lines m) (whole m) (last_text m)
content_goes m is lt =
    let last = length_goes m (last_text m) lt (end_ready m.body) in
    two_go (others_go m (header_line (codes "Content-Length") (decimal (length m.body))
    ++ last_text m) is.others last.ready) last

extensions_go : (m : Message) → IsMessage m → length m.body < 2 ^ 32
    → Goes (with_routes m (Some m.routes)) (extension_lines m) (whole m) (last_text m)
extensions_go m is lt =
    let content = content_goes m is lt in
    let rack = two_go (rack_goes m m.rack (content_lines m) is.rack content.ready) content in
    let rseq = two_go (rseq_goes m (rack_line m.rack ++ content_lines m) is.rseq rack.ready) rack in
    let supported = two_go (supported_goes m
    (number_line (codes "RSeq") m.rseq ++ (rack_line m.rack ++ content_lines m)) is.supported
    rseq.ready) rseq in
    two_go (require_goes m (tokens_line (codes "Supported") m.supported
    ++ (number_line (codes "RSeq") m.rseq ++ (rack_line m.rack ++ content_lines m))) is.require
    supported.ready) supported

all_routes_go : (m : Message) → IsMessage m → length m.body < 2 ^ 32
    → Goes (identified m) (route_lines m) (whole m) (last_text m)
all_routes_go m is lt =
    let extensions = extensions_go m is lt in
    let routes = two_go (routes_go m (extension_lines m) is.routes extensions.ready) extensions in
    let record_routes = two_go (record_routes_go m
    (flat_map (address_line (codes "Route")) m.routes ++ extension_lines m) is.record_routes
    routes.ready) routes in
    two_go (contacts_go m (flat_map (address_line (codes "Record-Route")) m.record_routes
    ++ (flat_map (address_line (codes "Route")) m.routes ++ extension_lines m)) is.contacts
    record_routes.ready) record_routes

identity_goes : (m : Message) → IsMessage m → length m.body < 2 ^ 32
    → Goes (with_from m Absent) (identity_lines m) (whole m) (last_text m)
identity_goes m is lt =
    let routes = all_routes_go m is lt in
    let cseq = two_go (cseq_goes m (route_lines m) is routes.ready) routes in
    let call_id = two_go (call_id_goes m
    (header_line (codes "CSeq") (cseq_text m.cseq) ++ route_lines m) is cseq.ready) cseq in
    let to = two_go (to_goes m (header_line (codes "Call-ID") m.call_id
    ++ (header_line (codes "CSeq") (cseq_text m.cseq) ++ route_lines m)) is.to call_id.ready)
    call_id in
    two_go (from_goes m (party_line (codes "To") m.to
    ++ (header_line (codes "Call-ID") m.call_id
    ++ (header_line (codes "CSeq") (cseq_text m.cseq) ++ route_lines m))) is.from to.ready) to

headers_go : (m : Message) → IsMessage m → length m.body < 2 ^ 32
    → Goes no_header_fields (header_lines m) (whole m) (last_text m)
headers_go m is lt =
    let identity = identity_goes m is lt in
    let hops = two_go (hops_go m (identity_lines m) is.max_forwards identity.ready) identity in
    two_go (vias_go m (number_line (codes "Max-Forwards") m.max_forwards ++ identity_lines m)
    is.vias hops.ready) hops

-- ---- the whole text

regroup : (s e v x f t c q a r o k p g n h l z : List ℕ)
    → ((((((s ++ e) ++ v) ++ x) ++ (((f ++ t) ++ c) ++ q)) ++ ((a ++ r) ++ o))
    ++ (((k ++ p) ++ g) ++ n)) ++ (((h ++ l) ++ e) ++ z) ≡ s
    ++ (e ++ (v ++ (x ++ (f ++ (t ++ (c
    ++ (q ++ (a ++ (r ++ (o ++ (k ++ (p ++ (g ++ (n ++ (h ++ (l ++ (e ++ z)))))))))))))))))
regroup s e v x f t c q a r o k p g n h l z = simp append_assoc

in_lines : (m : Message) → written m ≡ start_of m.start m.cseq.method
    ++ (13 ∷ (10 ∷ header_lines m))
unfolding written head_text identity_text routes_text extensions_text content_text
in_lines m =
    ap (λ (s : List ℕ). ((((((s ++ flat_map via_line m.vias)
    ++ number_line (codes "Max-Forwards") m.max_forwards)
    ++ (((party_line (codes "From") m.from ++ party_line (codes "To") m.to)
    ++ header_line (codes "Call-ID") m.call_id)
    ++ header_line (codes "CSeq") (cseq_text m.cseq)))
    ++ ((flat_map contact_line m.contacts
    ++ flat_map (address_line (codes "Record-Route")) m.record_routes)
    ++ flat_map (address_line (codes "Route")) m.routes))
    ++ (((tokens_line (codes "Require") m.require
    ++ tokens_line (codes "Supported") m.supported) ++ number_line (codes "RSeq") m.rseq)
    ++ rack_line m.rack)) ++ (((flat_map other_line m.others
    ++ header_line (codes "Content-Length") (decimal (length m.body))) ++ codes "\r\n")
    ++ m.body))) (start_with_end m.start m.cseq.method)
    ∙ regroup (start_of m.start m.cseq.method) (codes "\r\n") (flat_map via_line m.vias)
    (number_line (codes "Max-Forwards") m.max_forwards) (party_line (codes "From") m.from)
    (party_line (codes "To") m.to) (header_line (codes "Call-ID") m.call_id)
    (header_line (codes "CSeq") (cseq_text m.cseq))
    (flat_map contact_line m.contacts)
    (flat_map (address_line (codes "Record-Route")) m.record_routes)
    (flat_map (address_line (codes "Route")) m.routes) (tokens_line (codes "Require") m.require)
    (tokens_line (codes "Supported") m.supported) (number_line (codes "RSeq") m.rseq)
    (rack_line m.rack) (flat_map other_line m.others)
    (header_line (codes "Content-Length") (decimal (length m.body))) m.body

-- ---- its numbers

good_ports : (vias : List Via) → AllByRecursion IsVia vias
    → list_all is_port (port_words (map via_draft vias)) ≡ true
good_ports [] all = refl
good_ports (v ∷ vias) all =
    list_all-append is_port (option_to_list (option_map (λ n. Number n) v.port))
    (port_words (map via_draft vias))
    ∙ and_from _ _ (good_port v.port all.0.port) (good_ports vias all.1)
  where
    good_port : (port : Option ℕ) → IfSome port (λ n. n < 2 ^ 16)
        → list_all is_port (option_to_list (option_map (λ n. Number n) port)) ≡ true
    good_port None lt = refl
    good_port (Some n) lt = rw (le-ltb 65535 n (omega (arith, lt))) refl

good_number : (n : Option ℕ) → list_all is_number (option_to_list (option_map (λ x. Number x) n))
    ≡ true
good_number None = refl
good_number (Some n) = refl

both_good : (xs ys : List Numeral) → list_all is_number xs ≡ true → list_all is_number ys ≡ true
    → list_all is_number (xs ++ ys) ≡ true
both_good xs ys e f = list_all-append is_number xs ys ∙ and_from _ _ e f

good_rack : (rack : Option RAck)
    → list_all is_number (flat_map (λ r. r.rseq ∷ (r.cseq ∷ []))
    (option_to_list (option_map rack_draft rack))) ≡ true
good_rack None = refl
good_rack (Some rack) = refl

good_numbers : (m : Message) (count : Option ℕ) → IsMessage m
    → are_numbers (headers_with m count) ≡ true
good_numbers m count is =
    and_from _ _ (good_ports m.vias is.vias)
    (both_good (option_to_list (option_map (λ x. Number x) m.max_forwards)) _
    (good_number m.max_forwards)
    (both_good (option_to_list (option_map (λ x. Number x) m.rseq)) _ (good_number m.rseq)
    (both_good (flat_map (λ r. r.rseq ∷ (r.cseq ∷ []))
    (option_to_list (option_map rack_draft m.rack))) _ (good_rack m.rack) (good_number count))))

-- ---- it is read again

some_vias : (vias : List Via) → are_vias vias ≡ true → map via_draft vias ≡ [] → ⊥
unfolding are_vias
some_vias [] is e = absurd cc
some_vias (v ∷ vias) is e = absurd cc

lines_again : (m : Message) → IsMessage m
    → message_of_lines (start_of m.start m.cseq.method) (whole m) m.body ≡ Ok m
unfolding message_of_lines
lines_again m is =
    let text = start_of m.start m.cseq.method in
    let line = first_of m.start m.cseq.method in
    let h = headers_with m (Some (length m.body)) in
    step_again fault.BadStartLine (start_at text)
    (λ says. faultless (whole m) >>= λ d. message_of_draft says d m.body) line
    (start_reads.again text line (first_spelled m.start m.cseq.method text
    (start_spelled m.start m.cseq.method is.start is.method)))
    ∙ result_again (faultless (whole m)) (λ d. message_of_draft line d m.body) (whole m)
    (no_fault h (some_vias m.vias is.top))
    ∙ made_again m (Some (length m.body)) m.body (good_numbers m (Some (length m.body)) is) is.top
    (body_again m.body (Some (length m.body)) m.body ([], sym (append-nil m.body), refl))

body_short : (m : Message) → length (written m) ≤ 65535 → length m.body < 2 ^ 32
unfolding written content_text
body_short m short =
    let content = (flat_map other_line m.others
    ++ header_line (codes "Content-Length") (decimal (length m.body))) ++ codes "\r\n" in
    omega (
      arith,
      short,
      length-append
          (((head_text m ++ identity_text m) ++ routes_text m) ++ extensions_text m)
          (content ++ m.body),
      length-append content m.body,
    )

read_again : (m : Message) → IsMessage m → length (written m) ≤ 65535
    → message_at (written m) ≡ Ok m
read_again m is short =
    let first = start_of m.start m.cseq.method in
    let rest = header_lines m in
    let text = first ++ (13 ∷ (10 ∷ rest)) in
    let free = start_free m.start m.cseq.method is.start is.method in
    let all = headers_go m is (body_short m short) in
    let begins : without_line_ends text ≡ text =
    kept text (no_end text first rest (is_line first rest free)
    (start_full m.start m.cseq.method)) in
    let read : message_in text ≡ message_of_lines first (whole m) m.body =
    some_gathered text text first rest first rest (whole m) m.body (sym begins)
    (sym (ended_line first rest free))
    (ends_here first rest all.ready.line all.ready.after all.ready.line_is all.ready.anew)
    (sym (all.same ∙ end_gathered (whole m) m.body)) in
    ap (λ b. cond b (Err fault.TooLong) (message_in (without_line_ends (written m))))
    (le-ltb 65535 (length (written m)) short)
    ∙ ap (λ (xs : List ℕ). message_in (without_line_ends xs)) (in_lines m)
    ∙ ap message_in begins ∙ read ∙ lines_again m is

pub written_spelled : (m : Message) → IsMessage m → length (written m) ≤ 65535
    → Spells m (written m)
written_spelled m is short = spelled_takes (written m) m (read_again m is short)
