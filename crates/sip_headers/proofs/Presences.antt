-- What is missing or repeated in a draft is missing or repeated in its lines.
use Rattle.std.proofs.Common.{◌≡◌, ℕ, Bool, false, ◌&&◌, ltb, List, [], ◌∷◌, ◌++◌, length, cond, Option, Some, None, find, refl, sym, ap, ◌∙◌, arith}
use Rattle.std.specs.List.{AllByRecursion, flat_map, list_any}
use Rattle.std.proofs.lemmas.Bool.{or_parts, lt-ltb}
use Rattle.sip_grammar.specs.HeaderEntry.{entry, headers, is_needed, is_single}
use Rattle.sip_grammar.specs.declared.header_name.HeaderName.TheVariants as name
use Rattle.sip_header_values.specs.ViaValue.{AreVias}
use Rattle.sip_header_values.specs.declared.via.ViaDraft.{ViaDraft}
use Rattle.sip_headers.specs.HeaderFields.{draft_of}
use Rattle.sip_headers.specs.Presence.{slot_presence, list_presence, presence_of, is_nowhere, is_repeated, is_unfit, has_bad_header, missing, repeated}
use Rattle.sip_headers.specs.Section.{IsDraftOf, has_no_values, values}
use Rattle.sip_headers.specs.Slot.{IsSlot, IsList}
use Rattle.sip_headers.specs.declared.header_fields.HeaderFields.{HeaderFields}
use Rattle.sip_headers.specs.declared.slot.Slot.{Slot}
use Rattle.sip_headers.specs.declared.slot.Slot.TheVariants.{Absent, Once, Twice, Bad}
use Rattle.sip_headers.proofs.Drafts.{is_draft}

pub find_same_by : {A : Type 0} (p q : Bool) (x : A) (one two : Option A) → p ≡ q → one ≡ two
    → cond p (Some x) one ≡ cond q (Some x) two
find_same_by p q x one two e f = ap (λ b. cond b (Some x) one) e ∙ ap (λ o. cond q (Some x) o) f

find_same : {A : Type 0} (p q : A → Bool) (xs : List A) → AllByRecursion (λ x. p x ≡ q x) xs
    → find p xs ≡ find q xs
find_same p q [] all = refl
find_same p q (x ∷ xs) all =
    find_same_by (p x) (q x) x (find p xs) (find q xs) all.0 (find_same p q xs all.1)

pub none_of : {A : Type 0} (p : A → Bool) (xs : List A) → list_any p xs ≡ false
    → AllByRecursion (λ x. p x ≡ false) xs
none_of p [] e = tt
none_of p (x ∷ xs) e =
    let parts = or_parts (p x) (list_any p xs) e in (parts.0, none_of p xs parts.1)

-- ---- one header

slot_nowhere : {X : Type 0} (P : X → List ℕ → Type 0) (s : Slot X) (vs : List (List ℕ))
    → IsSlot P s vs → is_unfit (slot_presence s) ≡ false
    → is_nowhere (slot_presence s) ≡ has_no_values vs
slot_nowhere P Absent vs is fit = ap has_no_values (sym is)
slot_nowhere P (Once x) [] is fit = absurd is
slot_nowhere P (Once x) (v ∷ vs) is fit = refl
slot_nowhere P Twice [] is fit = absurd (omega (arith, is.2))
slot_nowhere P Twice (v ∷ vs) is fit = refl
slot_nowhere P Bad vs is fit = absurd cc

slot_repeated : {X : Type 0} (P : X → List ℕ → Type 0) (s : Slot X) (vs : List (List ℕ))
    → IsSlot P s vs → is_unfit (slot_presence s) ≡ false
    → is_repeated (slot_presence s) ≡ ltb 1 (length vs)
slot_repeated P Absent vs is fit = ap (λ ws. ltb 1 (length ws)) (sym is)
slot_repeated P (Once x) [] is fit = absurd is
slot_repeated P (Once x) (v ∷ []) is fit = refl
slot_repeated P (Once x) (v ∷ (w ∷ vs)) is fit = absurd is.1
slot_repeated P Twice vs is fit = sym (lt-ltb 1 (length vs) (omega (arith, is.2)))
slot_repeated P Bad vs is fit = absurd cc

pub list_never_repeated : {X : Type 0} (o : Option (List X)) → is_repeated (list_presence o) ≡ false
list_never_repeated None = refl
list_never_repeated (Some []) = refl
list_never_repeated (Some (x ∷ xs)) = refl

-- a Via line has a value
pub some_via : (vias : List ViaDraft) (text : List ℕ) → AreVias vias text → vias ≡ [] → ⊥
some_via vias text ([], split, all) none = split
some_via [] text (piece ∷ pieces, split, all) none = absurd all
some_via (via ∷ vias) text (piece ∷ pieces, split, all) none = absurd cc

front_empty : {X : Type 0} (xs ys : List X) → [] ≡ xs ++ ys → xs ≡ []
front_empty [] ys e = refl
front_empty (x ∷ xs) ys e = absurd cc

via_nowhere : (o : Option (List ViaDraft)) (vs : List (List ℕ)) → IsList AreVias o vs
    → is_unfit (list_presence o) ≡ false → is_nowhere (list_presence o) ≡ has_no_values vs
via_nowhere None vs is fit = absurd cc
via_nowhere (Some []) [] is fit = refl
via_nowhere (Some []) (v ∷ vs) ([], all, e) fit = absurd all
via_nowhere (Some []) (v ∷ vs) (list ∷ lists, all, e) fit =
    absurd (some_via list v all.0 (front_empty list (flat_map (λ l. l) lists) e))
via_nowhere (Some (x ∷ xs)) [] ([], all, e) fit = absurd cc
via_nowhere (Some (x ∷ xs)) [] (list ∷ lists, all, e) fit = absurd all
via_nowhere (Some (x ∷ xs)) (v ∷ vs) is fit = refl

-- ---- all headers

pub fits : (d : HeaderFields) → has_bad_header d ≡ false
    → AllByRecursion (λ header. is_unfit (presence_of d header) ≡ false) headers
fits d e = none_of (λ header. is_unfit (presence_of d header)) headers (or_parts _ _ e).1

missing_of : (d : HeaderFields) (lines : List (List ℕ)) → IsDraftOf d lines
    → AllByRecursion (λ header. is_unfit (presence_of d header) ≡ false) headers
    → missing d ≡ find (λ header. is_needed (entry header).kind
    && has_no_values (values header lines)) headers
missing_of d lines is fit =
    find_same (λ header. is_needed (entry header).kind && is_nowhere (presence_of d header))
    (λ header. is_needed (entry header).kind && has_no_values (values header lines)) headers (
      via_nowhere d.vias (values name.Via lines) is.vias fit.0,
      (
        slot_nowhere _ d.from (values name.From lines) is.from fit.1.0,
        (
          slot_nowhere _ d.to (values name.To lines) is.to fit.1.1.0,
          (
            slot_nowhere _ d.call_id (values name.CallId lines) is.call_id fit.1.1.1.0,
            (
              slot_nowhere _ d.cseq (values name.CSeq lines) is.cseq fit.1.1.1.1.0,
              (refl, (refl, (refl, (refl, (refl, (refl, (refl, (refl, (refl, tt))))))))),
            ),
          ),
        ),
      ),
    )

repeated_of : (d : HeaderFields) (lines : List (List ℕ)) → IsDraftOf d lines
    → AllByRecursion (λ header. is_unfit (presence_of d header) ≡ false) headers
    → repeated d ≡ find (λ header. is_single (entry header).kind
    && ltb 1 (length (values header lines))) headers
repeated_of d lines is fit =
    find_same (λ header. is_repeated (presence_of d header))
    (λ header. is_single (entry header).kind && ltb 1 (length (values header lines))) headers (
      list_never_repeated d.vias,
      (
        slot_repeated _ d.from (values name.From lines) is.from fit.1.0,
        (
          slot_repeated _ d.to (values name.To lines) is.to fit.1.1.0,
          (
            slot_repeated _ d.call_id (values name.CallId lines) is.call_id fit.1.1.1.0,
            (
              slot_repeated _ d.cseq (values name.CSeq lines) is.cseq fit.1.1.1.1.0,
              (
                slot_repeated _ d.max_forwards
                    (values name.MaxForwards lines) is.max_forwards fit.1.1.1.1.1.0,
                (
                  slot_repeated _ d.content_length
                      (values name.ContentLength lines) is.content_length fit.1.1.1.1.1.1.0,
                  (
                    slot_repeated _ d.rseq (values name.RSeq lines) is.rseq fit.1.1.1.1.1.1.1.0,
                    (
                      slot_repeated _ d.rack (values name.RAck lines) is.rack fit.1.1.1.1.1.1.1.1.0,
                      (
                        list_never_repeated d.contacts,
                        (
                          list_never_repeated d.record_routes,
                          (
                            list_never_repeated d.routes,
                            (list_never_repeated d.require, (list_never_repeated d.supported, tt)),
                          ),
                        ),
                      ),
                    ),
                  ),
                ),
              ),
            ),
          ),
        ),
      ),
    )

pub missing_is : (lines : List (List ℕ)) → has_bad_header (draft_of lines) ≡ false
    → missing (draft_of lines) ≡ find
    (λ header. is_needed (entry header).kind && has_no_values (values header lines)) headers
missing_is lines e = missing_of (draft_of lines) lines (is_draft lines) (fits (draft_of lines) e)

pub repeated_is : (lines : List (List ℕ)) → has_bad_header (draft_of lines) ≡ false
    → repeated (draft_of lines) ≡ find
    (λ header. is_single (entry header).kind && ltb 1 (length (values header lines))) headers
repeated_is lines e = repeated_of (draft_of lines) lines (is_draft lines) (fits (draft_of lines) e)
