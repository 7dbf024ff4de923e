-- A draft has the values of each header: one step is one value of one column.
use Rattle.std.proofs.Common.{◌≡◌, ℕ, suc, Bool, true, false, ◌||◌, List, [], ◌∷◌, ◌++◌, length, Option, Some, None, fold, refl, sym, ap, subst, ◌∙◌, append_assoc, arith}
use Rattle.std.specs.List.{AllZip, IsAmong, flat_map}
use Rattle.std.proofs.lemmas.List.{append-nil, length-append}
use Rattle.std.proofs.Math.ListN.{get_or-append}
use Rattle.std.proofs.Math.Seq.{get_or-append_seam}
use Rattle.sip_grammar.specs.declared.header_name.HeaderName.{HeaderName}
use Rattle.sip_grammar.specs.declared.header_name.HeaderName.TheVariants as name
use Rattle.sip_text.proofs.ReadForms.{Reads, not_read}
use Rattle.sip_header_values.proofs.Rows.{numeral_reads, party_reads, name_addrs_reads, vias_reads, tokens_reads, call_id_reads, cseq_reads, rack_reads}
use Rattle.sip_headers.specs.Steps.Columns.{continued}
use Rattle.sip_headers.specs.HeaderFields.{with_value, with_class, with_line, no_header_fields, draft_of}
use Rattle.sip_headers.specs.HeaderLine.{Class, bad, known, other, class_from}
use Rattle.sip_headers.specs.Section.{IsDraftOf, before_values, values, before_others, others_of, is_bad_class, has_bad_line}
use Rattle.sip_headers.specs.Slot.{met, listed, slot_from, list_from, HasBad, IsSlot, IsList}
use Rattle.sip_headers.specs.declared.header_fields.HeaderFields.{HeaderFields}
use Rattle.sip_headers.specs.declared.slot.Slot.{Slot}
use Rattle.sip_headers.specs.declared.slot.Slot.TheVariants.{Absent, Once, Twice, Bad}

or_true : (b : Bool) → (b || true) ≡ true
or_true true = refl
or_true false = refl

-- one more value of one header
step_value : (d : HeaderFields) (header : HeaderName) (value : List ℕ) (rest : Bool)
    (v : HeaderName → List (List ℕ)) (o : List (List ℕ × List ℕ))
    → continued (with_value d header value) rest v o
    ≡ continued d rest (λ h. before_values h (known header value) (v h)) o
step_value d name.Via value rest v o = refl
step_value d name.MaxForwards value rest v o = refl
step_value d name.From value rest v o = refl
step_value d name.To value rest v o = refl
step_value d name.CallId value rest v o = refl
step_value d name.CSeq value rest v o = refl
step_value d name.Contact value rest v o = refl
step_value d name.RecordRoute value rest v o = refl
step_value d name.Route value rest v o = refl
step_value d name.Require value rest v o = refl
step_value d name.Supported value rest v o = refl
step_value d name.RSeq value rest v o = refl
step_value d name.RAck value rest v o = refl
step_value d name.ContentLength value rest v o = refl

step : (d : HeaderFields) (class : Class) (rest : Bool) (v : HeaderName → List (List ℕ))
    (o : List (List ℕ × List ℕ)) → continued (with_class d class) rest v o
    ≡ continued d (is_bad_class class rest) (λ h. before_values h class (v h))
    (before_others class o)
step d bad rest v o =
    ap (λ b. record (continued d rest v o) { is_bad = b }) (sym (or_true d.is_bad))
step d (known header value) rest v o = step_value d header value rest v o
step d (other name value) rest v o = refl

or_false : (b : Bool) → (b || false) ≡ b
or_false true = refl
or_false false = refl

pub fold-with_line : (d : HeaderFields) (lines : List (List ℕ))
    → fold with_line d lines ≡ continued d (has_bad_line lines) (λ h. values h lines)
    (others_of lines)
fold-with_line d [] = ap (λ b. record d { is_bad = b }) (sym (or_false d.is_bad))
fold-with_line d (line ∷ lines) =
    fold-with_line (with_line d line) lines
    ∙ step d (class_from line) (has_bad_line lines) (λ h. values h lines) (others_of lines)

-- ---- what a column says of the values

among_last : (xs : List (List ℕ)) (x : List ℕ) → IsAmong (xs ++ x ∷ []) x
among_last xs x =
    (length xs, (omega (arith, length-append xs (x ∷ [])), sym (get_or-append_seam xs x [] x)))

among_more : (xs : List (List ℕ)) (x y : List ℕ) → IsAmong xs x → IsAmong (xs ++ y ∷ []) x
among_more xs x y among = (
  among.0,
  (
    omega (arith, length-append xs (y ∷ []), among.1.0),
    among.1.1
        ∙ sym (get_or-append xs (y ∷ []) x among.0 among.1.0),
  ),
)

zip_push : {X : Type 0} (P : X → List ℕ → Type 0) (xs : List X) (vs : List (List ℕ)) (x : X)
    (v : List ℕ) → AllZip P xs vs → P x v → AllZip P (xs ++ x ∷ []) (vs ++ v ∷ [])
zip_push P [] [] x v all p = (p, tt)
zip_push P [] (w ∷ vs) x v all p = absurd all
zip_push P (y ∷ xs) [] x v all p = absurd all
zip_push P (y ∷ xs) (w ∷ vs) x v all p = (all.0, zip_push P xs vs x v all.1 p)

zip_length : {X : Type 0} (P : X → List ℕ → Type 0) (xs : List X) (vs : List (List ℕ))
    → AllZip P xs vs → length vs ≡ length xs
zip_length P [] [] all = refl
zip_length P [] (w ∷ vs) all = absurd all
zip_length P (y ∷ xs) [] all = absurd all
zip_length P (y ∷ xs) (w ∷ vs) all = ap suc (zip_length P xs vs all.1)

now_bad : {X : Type 0} (f : List ℕ → Option X) (P : X → List ℕ → Type 0) → Reads (List ℕ) X f P
    → (vs : List (List ℕ)) (v : List ℕ) → f v ≡ None → HasBad P (vs ++ v ∷ [])
now_bad f P reads vs v none = (v, among_last vs v, λ x p. not_read reads v none x p)

still_bad : {X : Type 0} (P : X → List ℕ → Type 0) (vs : List (List ℕ)) (v : List ℕ) → HasBad P vs
    → HasBad P (vs ++ v ∷ [])
still_bad P vs v is = (is.0, among_more vs is.0 v is.1, is.2)

slot_step : {X : Type 0} (f : List ℕ → Option X) (P : X → List ℕ → Type 0) → Reads (List ℕ) X f P
    → (s : Slot X) (vs : List (List ℕ)) (v : List ℕ) (o : Option X) → f v ≡ o → IsSlot P s vs
    → IsSlot P (met s o) (vs ++ v ∷ [])
slot_step f P reads Bad vs v o e is = still_bad P vs v is
slot_step f P reads Absent vs v None e is = now_bad f P reads vs v e
slot_step f P reads (Once y) vs v None e is = now_bad f P reads vs v e
slot_step f P reads Twice vs v None e is = now_bad f P reads vs v e
slot_step f P reads Absent vs v (Some x) e is =
    subst (λ (ws : List (List ℕ)). AllZip P (x ∷ []) (ws ++ v ∷ [])) (sym is)
    (reads.takes v x e, tt)
slot_step f P reads (Once y) vs v (Some x) e is = (
  y ∷ (x ∷ []),
  zip_push P (y ∷ []) vs x v is (reads.takes v x e),
  omega (arith, zip_length P (y ∷ []) vs is, length-append vs (v ∷ [])),
)
slot_step f P reads Twice vs v (Some x) e is = (
  is.0 ++ x ∷ [],
  zip_push P is.0 vs x v is.1 (reads.takes v x e),
  omega (arith, is.2, length-append vs (v ∷ [])),
)

slot_on : {X : Type 0} (f : List ℕ → Option X) (P : X → List ℕ → Type 0) → Reads (List ℕ) X f P
    → (s : Slot X) (before vs : List (List ℕ)) → IsSlot P s before
    → IsSlot P (slot_from f s vs) (before ++ vs)
slot_on f P reads s before [] is =
    subst (λ (ws : List (List ℕ)). IsSlot P s ws) (sym (append-nil before)) is
slot_on f P reads s before (v ∷ vs) is =
    subst (λ (ws : List (List ℕ)). IsSlot P (slot_from f s (v ∷ vs)) ws)
    (append_assoc before (v ∷ []) vs)
    (slot_on f P reads (met s (f v)) (before ++ v ∷ []) vs
    (slot_step f P reads s before v (f v) refl is))

pub slot_is : {X : Type 0} {f : List ℕ → Option X} {P : X → List ℕ → Type 0} → Reads (List ℕ) X f P
    → (vs : List (List ℕ)) → IsSlot P (slot_from f Absent vs) vs
slot_is {f = f} {P = P} reads vs = slot_on f P reads Absent [] vs refl

flat-push : {X : Type 0} (lists : List (List X)) (list : List X)
    → flat_map (λ l. l) (lists ++ list ∷ []) ≡ flat_map (λ l. l) lists ++ list
flat-push [] list = append-nil list
flat-push (l ∷ lists) list =
    ap (λ r. l ++ r) (flat-push lists list) ∙ sym (append_assoc l (flat_map (λ l. l) lists) list)

list_step : {X : Type 0} (f : List ℕ → Option (List X)) (P : List X → List ℕ → Type 0)
    → Reads (List ℕ) (List X) f P → (s : Option (List X)) (vs : List (List ℕ)) (v : List ℕ)
    (o : Option (List X)) → f v ≡ o → IsList P s vs → IsList P (listed s o) (vs ++ v ∷ [])
list_step f P reads None vs v o e is = still_bad P vs v is
list_step f P reads (Some xs) vs v None e is = now_bad f P reads vs v e
list_step f P reads (Some xs) vs v (Some ys) e is = (
  is.0 ++ ys ∷ [],
  zip_push P is.0 vs ys v is.1 (reads.takes v ys e),
  ap (λ r. r ++ ys) is.2
      ∙ sym (flat-push is.0 ys),
)

list_on : {X : Type 0} (f : List ℕ → Option (List X)) (P : List X → List ℕ → Type 0)
    → Reads (List ℕ) (List X) f P → (s : Option (List X)) (before vs : List (List ℕ))
    → IsList P s before → IsList P (list_from f s vs) (before ++ vs)
list_on f P reads s before [] is =
    subst (λ (ws : List (List ℕ)). IsList P s ws) (sym (append-nil before)) is
list_on f P reads s before (v ∷ vs) is =
    subst (λ (ws : List (List ℕ)). IsList P (list_from f s (v ∷ vs)) ws)
    (append_assoc before (v ∷ []) vs)
    (list_on f P reads (listed s (f v)) (before ++ v ∷ []) vs
    (list_step f P reads s before v (f v) refl is))

pub list_is : {X : Type 0} {f : List ℕ → Option (List X)} {P : List X → List ℕ → Type 0}
    → Reads (List ℕ) (List X) f P → (vs : List (List ℕ)) → IsList P (list_from f (Some []) vs) vs
list_is {f = f} {P = P} reads vs = list_on f P reads (Some []) [] vs ([], tt, refl)

pub is_draft : (lines : List (List ℕ)) → IsDraftOf (draft_of lines) lines
is_draft lines =
    subst (λ (d : HeaderFields). IsDraftOf d lines)
    (sym (fold-with_line no_header_fields lines)) (record {
      bad_is = refl;
      vias = list_is vias_reads (values name.Via lines);
      max_forwards = slot_is numeral_reads (values name.MaxForwards lines);
      from = slot_is party_reads (values name.From lines);
      to = slot_is party_reads (values name.To lines);
      call_id = slot_is call_id_reads (values name.CallId lines);
      cseq = slot_is cseq_reads (values name.CSeq lines);
      contacts = list_is name_addrs_reads (values name.Contact lines);
      record_routes = list_is name_addrs_reads (values name.RecordRoute lines);
      routes = list_is name_addrs_reads (values name.Route lines);
      require = list_is tokens_reads (values name.Require lines);
      supported = list_is tokens_reads (values name.Supported lines);
      rseq = slot_is numeral_reads (values name.RSeq lines);
      rack = slot_is rack_reads (values name.RAck lines);
      content_length = slot_is numeral_reads (values name.ContentLength lines);
    })
