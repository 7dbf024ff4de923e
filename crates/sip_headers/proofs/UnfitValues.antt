-- A header is unfit in the draft exactly if it has a value that isn't in its form.
use Rattle.std.proofs.Common.{◌≡◌, ◌<◌, ℕ, zero, suc, true, false, List, [], ◌∷◌, length, get_or, Option, Some, None, sym, subst, arith}
use Rattle.std.specs.List.{AllZip, AllByRecursion}
use Rattle.sip_grammar.specs.HeaderEntry.{headers}
use Rattle.sip_grammar.specs.declared.header_name.HeaderName.{HeaderName}
use Rattle.sip_grammar.specs.declared.header_name.HeaderName.TheVariants as name
use Rattle.sip_headers.specs.Faults.{HasBadValue}
use Rattle.sip_headers.specs.Presence.{slot_presence, list_presence, presence_of, is_unfit}
use Rattle.sip_headers.specs.Section.{IsDraftOf, values}
use Rattle.sip_headers.specs.Slot.{HasBad, IsSlot, IsList}
use Rattle.sip_headers.specs.declared.header_fields.HeaderFields.{HeaderFields}
use Rattle.sip_headers.specs.declared.slot.Slot.{Slot}
use Rattle.sip_headers.specs.declared.slot.Slot.TheVariants.{Absent, Once, Twice, Bad}

slot_unfit : {X : Type 0} (P : X → List ℕ → Type 0) (s : Slot X) (vs : List (List ℕ))
    → IsSlot P s vs → is_unfit (slot_presence s) ≡ true → HasBad P vs
slot_unfit P Absent vs is e = absurd cc
slot_unfit P (Once x) vs is e = absurd cc
slot_unfit P Twice vs is e = absurd cc
slot_unfit P Bad vs is e = is

list_unfit : {X : Type 0} (P : List X → List ℕ → Type 0) (o : Option (List X)) (vs : List (List ℕ))
    → IsList P o vs → is_unfit (list_presence o) ≡ true → HasBad P vs
list_unfit P None vs is e = is
list_unfit P (Some []) vs is e = absurd cc
list_unfit P (Some (x ∷ xs)) vs is e = absurd cc

zip_at : {X : Type 0} (P : X → List ℕ → Type 0) (xs : List X) (vs : List (List ℕ)) → AllZip P xs vs
    → (i : ℕ) (d : List ℕ) → i < length vs → (x : X) × P x (get_or vs i d)
zip_at P [] [] all i d lt = absurd (omega arith)
zip_at P [] (v ∷ vs) all i d lt = absurd all
zip_at P (x ∷ xs) [] all i d lt = absurd all
zip_at P (x ∷ xs) (v ∷ vs) all zero d lt = (x, all.0)
zip_at P (x ∷ xs) (v ∷ vs) all (suc i) d lt = zip_at P xs vs all.1 i d (omega arith)

zip_no_bad : {X : Type 0} (P : X → List ℕ → Type 0) (xs : List X) (vs : List (List ℕ))
    → AllZip P xs vs → HasBad P vs → ⊥
zip_no_bad P xs vs all bad =
    let at = zip_at P xs vs all bad.1.0 _ bad.1.1.0 in
    bad.2 at.0 (subst (λ (v : List ℕ). P at.0 v) (sym bad.1.1.1) at.1)

slot_fits : {X : Type 0} (P : X → List ℕ → Type 0) (s : Slot X) (vs : List (List ℕ)) → IsSlot P s vs
    → is_unfit (slot_presence s) ≡ false → HasBad P vs → ⊥
slot_fits P Absent vs is e bad =
    zip_no_bad P [] [] tt (subst (λ (ws : List (List ℕ)). HasBad P ws) is bad)
slot_fits P (Once x) vs is e bad = zip_no_bad P (x ∷ []) vs is bad
slot_fits P Twice vs is e bad = zip_no_bad P is.0 vs is.1 bad
slot_fits P Bad vs is e bad = absurd cc

list_fits : {X : Type 0} (P : List X → List ℕ → Type 0) (o : Option (List X)) (vs : List (List ℕ))
    → IsList P o vs → is_unfit (list_presence o) ≡ false → HasBad P vs → ⊥
list_fits P None vs is e bad = absurd cc
list_fits P (Some xs) vs is e bad = zip_no_bad P is.0 vs is.1 bad

pub unfit_value : (d : HeaderFields) (lines : List (List ℕ)) → IsDraftOf d lines → (h : HeaderName)
    → is_unfit (presence_of d h) ≡ true → HasBadValue h (values h lines)
unfit_value d lines is name.Via e = list_unfit _ d.vias (values name.Via lines) is.vias e
unfit_value d lines is name.MaxForwards e =
    slot_unfit _ d.max_forwards (values name.MaxForwards lines) is.max_forwards e
unfit_value d lines is name.From e = slot_unfit _ d.from (values name.From lines) is.from e
unfit_value d lines is name.To e = slot_unfit _ d.to (values name.To lines) is.to e
unfit_value d lines is name.CallId e =
    slot_unfit _ d.call_id (values name.CallId lines) is.call_id e
unfit_value d lines is name.CSeq e = slot_unfit _ d.cseq (values name.CSeq lines) is.cseq e
unfit_value d lines is name.Contact e =
    list_unfit _ d.contacts (values name.Contact lines) is.contacts e
unfit_value d lines is name.RecordRoute e =
    list_unfit _ d.record_routes (values name.RecordRoute lines) is.record_routes e
unfit_value d lines is name.Route e = list_unfit _ d.routes (values name.Route lines) is.routes e
unfit_value d lines is name.Require e =
    list_unfit _ d.require (values name.Require lines) is.require e
unfit_value d lines is name.Supported e =
    list_unfit _ d.supported (values name.Supported lines) is.supported e
unfit_value d lines is name.RSeq e = slot_unfit _ d.rseq (values name.RSeq lines) is.rseq e
unfit_value d lines is name.RAck e = slot_unfit _ d.rack (values name.RAck lines) is.rack e
unfit_value d lines is name.ContentLength e =
    slot_unfit _ d.content_length (values name.ContentLength lines) is.content_length e

abbrev Fits : HeaderFields → Type 0
Fits d = AllByRecursion (λ header. is_unfit (presence_of d header) ≡ false) headers

pub fit_value : (d : HeaderFields) (lines : List (List ℕ)) → IsDraftOf d lines → Fits d
    → (h : HeaderName)
    → HasBadValue h (values h lines) → ⊥
fit_value d lines is fit name.Via bad = list_fits _ d.vias (values name.Via lines) is.vias fit.0 bad
fit_value d lines is fit name.From bad =
    slot_fits _ d.from (values name.From lines) is.from fit.1.0 bad
fit_value d lines is fit name.To bad = slot_fits _ d.to (values name.To lines) is.to fit.1.1.0 bad
fit_value d lines is fit name.CallId bad =
    slot_fits _ d.call_id (values name.CallId lines) is.call_id fit.1.1.1.0 bad
fit_value d lines is fit name.CSeq bad =
    slot_fits _ d.cseq (values name.CSeq lines) is.cseq fit.1.1.1.1.0 bad
fit_value d lines is fit name.MaxForwards bad =
    slot_fits _ d.max_forwards (values name.MaxForwards lines) is.max_forwards fit.1.1.1.1.1.0 bad
fit_value d lines is fit name.ContentLength bad =
    slot_fits _ d.content_length (values name.ContentLength lines) is.content_length
    fit.1.1.1.1.1.1.0 bad
fit_value d lines is fit name.RSeq bad =
    slot_fits _ d.rseq (values name.RSeq lines) is.rseq fit.1.1.1.1.1.1.1.0 bad
fit_value d lines is fit name.RAck bad =
    slot_fits _ d.rack (values name.RAck lines) is.rack fit.1.1.1.1.1.1.1.1.0 bad
fit_value d lines is fit name.Contact bad =
    list_fits _ d.contacts (values name.Contact lines) is.contacts fit.1.1.1.1.1.1.1.1.1.0 bad
fit_value d lines is fit name.RecordRoute bad =
    list_fits _ d.record_routes (values name.RecordRoute lines) is.record_routes
    fit.1.1.1.1.1.1.1.1.1.1.0 bad
fit_value d lines is fit name.Route bad =
    list_fits _ d.routes (values name.Route lines) is.routes fit.1.1.1.1.1.1.1.1.1.1.1.0 bad
fit_value d lines is fit name.Require bad =
    list_fits _ d.require (values name.Require lines) is.require fit.1.1.1.1.1.1.1.1.1.1.1.1.0 bad
fit_value d lines is fit name.Supported bad =
    list_fits _ d.supported (values name.Supported lines) is.supported
    fit.1.1.1.1.1.1.1.1.1.1.1.1.1.0 bad
