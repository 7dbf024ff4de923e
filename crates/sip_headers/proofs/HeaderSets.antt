-- The headers of lines are those of their draft.
use Rattle.std.proofs.Common.{◌≡◌, ℕ, true, false, List, [], ◌∷◌, ◌++◌, Option, Some, None, Ok, refl, sym, ap, subst, ◌∙◌, append_assoc}
use Rattle.std.specs.List.{AllZip, flat_map}
use Rattle.std.proofs.lemmas.List.{append-nil}
use Rattle.std.proofs.lemmas.Option.{same_Some}
use Rattle.sip_text.proofs.ReadForms.{Reads}
use Rattle.sip_grammar.specs.declared.header_name.HeaderName.TheVariants as name
use Rattle.sip_header_values.proofs.Rows.{numeral_reads, party_reads, name_addrs_reads, vias_reads, tokens_reads, call_id_reads, cseq_reads, rack_reads}
use Rattle.sip_headers.specs.Complete.{slot_of, draft_with, faultless}
use Rattle.sip_headers.specs.HeaderFields.{no_header_fields, draft_of}
use Rattle.sip_headers.specs.Headers.{Headers, One, AtMostOne, AreHeaders}
use Rattle.sip_headers.specs.Slot.{Many}
use Rattle.sip_headers.specs.Presence.{list_presence, is_nowhere, has_bad_header, missing, repeated}
use Rattle.sip_headers.specs.Section.{values, others_of, IsDraftOf}
use Rattle.sip_headers.specs.Slot.{met, listed, slot_from, list_from, IsSlot}
use Rattle.sip_headers.specs.declared.header_fields.HeaderFields.{HeaderFields}
use Rattle.sip_headers.specs.declared.slot.Slot.TheVariants.{Absent, Once}
use Rattle.sip_headers.proofs.Completes.{headers_there, via_there}
use Rattle.sip_headers.proofs.Drafts.{fold-with_line, is_draft}
use Rattle.sip_headers.proofs.FaultlessDrafts.{no_fault}
use Rattle.sip_headers.proofs.KeptHeaders.{good_lines, lines_are, others_list, others_are}
use Rattle.sip_headers.proofs.NamedLines.{ByLine, by_line, by_name}

-- ---- columns of values

one_slot : {X : Type 0} {f : List ℕ → Option X} {P : X → List ℕ → Type 0} → Reads (List ℕ) X f P
    → (x : X) (vs : List (List ℕ)) → One P x vs → slot_from f Absent vs ≡ Once x
one_slot reads x [] is = absurd is
one_slot reads x (v ∷ []) is = ap (met Absent) (reads.again v x is.0)
one_slot reads x (v ∷ (w ∷ vs)) is = absurd is.1

open_slot : {X : Type 0} {f : List ℕ → Option X} {P : X → List ℕ → Type 0} → Reads (List ℕ) X f P
    → (o : Option X) (vs : List (List ℕ)) → AtMostOne P o vs → slot_from f Absent vs ≡ slot_of o
open_slot reads None [] is = refl
open_slot reads None (v ∷ vs) is = absurd is
open_slot reads (Some x) vs is = one_slot reads x vs is

zip_list : {X : Type 0} {f : List ℕ → Option (List X)} {P : List X → List ℕ → Type 0}
    → Reads (List ℕ) (List X) f P → (front : List X) (lists : List (List X)) (vs : List (List ℕ))
    → AllZip P lists vs → list_from f (Some front) vs ≡ Some (front ++ flat_map (λ l. l) lists)
zip_list reads front [] [] all = ap (λ xs. Some xs) (sym (append-nil front))
zip_list reads front [] (v ∷ vs) all = absurd all
zip_list reads front (l ∷ lists) [] all = absurd all
zip_list {f = f} reads front (l ∷ lists) (v ∷ vs) all =
    ap (λ o. list_from f (listed (Some front) o) vs) (reads.again v l all.0)
    ∙ zip_list reads (front ++ l) lists vs all.1
    ∙ ap (λ xs. Some xs) (append_assoc front l (flat_map (λ m. m) lists))

many_list : {X : Type 0} {f : List ℕ → Option (List X)} {P : List X → List ℕ → Type 0}
    → Reads (List ℕ) (List X) f P → (xs : List X) (vs : List (List ℕ)) → Many P xs vs
    → list_from f (Some []) vs ≡ Some xs
many_list reads xs vs is = zip_list reads [] is.0 vs is.1 ∙ ap (λ ys. Some ys) (sym is.2)

at_most_one_is : {X : Type 0} (P : X → List ℕ → Type 0) (o : Option X) (vs : List (List ℕ))
    → IsSlot P (slot_of o) vs → AtMostOne P o vs
at_most_one_is P None vs is = subst (λ (ws : List (List ℕ)). AllZip P [] ws) (sym is) tt
at_most_one_is P (Some x) vs is = is

-- ---- the draft of lines with these headers

pub drafted : (h : Headers) (lines : List (List ℕ)) → ByLine h lines
    → draft_of lines ≡ draft_with h
drafted h lines is =
    fold-with_line no_header_fields lines ∙ (λ i. record {
      is_bad = good_lines lines is.0 i;
      vias = many_list vias_reads h.vias (values name.Via lines) is.1.vias i;
      max_forwards = open_slot numeral_reads h.max_forwards
          (values name.MaxForwards lines) is.1.max_forwards i;
      from = one_slot party_reads h.from (values name.From lines) is.1.from i;
      to = one_slot party_reads h.to (values name.To lines) is.1.to i;
      call_id = one_slot call_id_reads h.call_id (values name.CallId lines) is.1.call_id i;
      cseq = one_slot cseq_reads h.cseq (values name.CSeq lines) is.1.cseq i;
      contacts = many_list name_addrs_reads h.contacts (values name.Contact lines) is.1.contacts i;
      record_routes = many_list name_addrs_reads h.record_routes
          (values name.RecordRoute lines) is.1.record_routes i;
      routes = many_list name_addrs_reads h.routes (values name.Route lines) is.1.routes i;
      require = many_list tokens_reads h.require (values name.Require lines) is.1.require i;
      supported = many_list tokens_reads h.supported (values name.Supported lines) is.1.supported i;
      rseq = open_slot numeral_reads h.rseq (values name.RSeq lines) is.1.rseq i;
      rack = open_slot rack_reads h.rack (values name.RAck lines) is.1.rack i;
      content_length = open_slot numeral_reads h.content_length
          (values name.ContentLength lines) is.1.content_length i;
      others = others_list [] h.others (others_of lines) is.1.others i;
    })

pub headers_again : (h : Headers) (lines : List (List ℕ)) → AreHeaders h lines
    → faultless (draft_of lines) ≡ Ok (draft_with h)
headers_again h lines is =
    let found = by_line h lines is in
    ap faultless (drafted h lines found) ∙ no_fault h found.1.some_via

-- ---- lines have headers in one way

same_slot : {X : Type 0} (o p : Option X) → slot_of o ≡ slot_of p → o ≡ p
same_slot None None e = refl
same_slot (Some x) None e = absurd cc
same_slot None (Some y) e = absurd cc
same_slot (Some x) (Some y) e = let same : x ≡ y = cc in ap (λ z. Some z) same

same_once : {X : Type 0} (x y : X) → Once x ≡ Once y → x ≡ y
same_once x y e = cc

same_headers : (g h : Headers) → draft_with g ≡ draft_with h → g ≡ h
same_headers g h e = λ i. record {
  vias = same_Some g.vias h.vias (λ j. (e j).vias) i;
  max_forwards = same_slot g.max_forwards h.max_forwards (λ j. (e j).max_forwards) i;
  from = same_once g.from h.from (λ j. (e j).from) i;
  to = same_once g.to h.to (λ j. (e j).to) i;
  call_id = same_once g.call_id h.call_id (λ j. (e j).call_id) i;
  cseq = same_once g.cseq h.cseq (λ j. (e j).cseq) i;
  contacts = same_Some g.contacts h.contacts (λ j. (e j).contacts) i;
  record_routes = same_Some g.record_routes h.record_routes (λ j. (e j).record_routes) i;
  routes = same_Some g.routes h.routes (λ j. (e j).routes) i;
  require = same_Some g.require h.require (λ j. (e j).require) i;
  supported = same_Some g.supported h.supported (λ j. (e j).supported) i;
  rseq = same_slot g.rseq h.rseq (λ j. (e j).rseq) i;
  rack = same_slot g.rack h.rack (λ j. (e j).rack) i;
  content_length = same_slot g.content_length h.content_length (λ j. (e j).content_length) i;
  others = same_Some g.others h.others (λ j. (e j).others) i;
}

pub only_headers : (g h : Headers) (lines : List (List ℕ)) → AreHeaders g lines
    → AreHeaders h lines → g ≡ h
only_headers g h lines is also =
    same_headers g h (sym (drafted g lines (by_line g lines is))
    ∙ drafted h lines (by_line h lines also))

-- ---- a draft without a fault has headers

pub headers_are : (h : Headers) (lines : List (List ℕ)) → draft_of lines ≡ draft_with h
    → (h.vias ≡ [] → ⊥) → AreHeaders h lines
headers_are h lines same some =
    let is = subst (λ (d : HeaderFields). IsDraftOf d lines) same (is_draft lines) in
    by_name h lines (
      lines_are lines (sym is.bad_is),
      record {
        some_via = some;
        vias = is.vias;
        max_forwards = at_most_one_is _ h.max_forwards
            (values name.MaxForwards lines) is.max_forwards;
        from = is.from;
        to = is.to;
        call_id = is.call_id;
        cseq = is.cseq;
        contacts = is.contacts;
        record_routes = is.record_routes;
        routes = is.routes;
        require = is.require;
        supported = is.supported;
        rseq = at_most_one_is _ h.rseq (values name.RSeq lines) is.rseq;
        rack = at_most_one_is _ h.rack (values name.RAck lines) is.rack;
        content_length =
            at_most_one_is _ h.content_length (values name.ContentLength lines) is.content_length;
        others = others_are h.others lines (ap (λ (d : HeaderFields). d.others) same);
      },
    )

pub complete_headers : (lines : List (List ℕ)) → has_bad_header (draft_of lines) ≡ false
    → missing (draft_of lines) ≡ None → repeated (draft_of lines) ≡ None
    → (h : Headers) × AreHeaders h lines × (draft_of lines ≡ draft_with h)
complete_headers lines bad none single =
    let all = headers_there (draft_of lines) bad none single in
    let there = via_there (draft_of lines) none in
    let some : all.0.vias ≡ [] → ⊥ = λ (e : all.0.vias ≡ []).
    let nowhere : is_nowhere (list_presence (draft_of lines).vias) ≡ true =
    ap (λ (d : HeaderFields). is_nowhere (list_presence d.vias)) all.1
    ∙ ap (λ vs. is_nowhere (list_presence (Some vs))) e in
    let f : true ≡ false = sym nowhere ∙ there in
    cc in
    (all.0, headers_are all.0 lines all.1 some, all.1)
