-- No name belongs to two headers of the table.
use Rattle.std.proofs.Common.{◌≡◌, ℕ, Bool, true, false, cond, eqb, List, [], ◌∷◌, map, Option, Some, None, refl, sym, ap, subst, ◌∙◌, inl, inr}
use Rattle.std.specs.Prelude.{find, ◌||◌}
use Rattle.std.specs.Char.{to_ascii_lowercase}
use Rattle.std.specs.Cmp.Lexicographic.{pointwise}
use Rattle.std.specs.Option.{option_map_or}
use Rattle.std.proofs.lemmas.Option.{same_Some}
use Rattle.std.proofs.lemmas.Bool.{and_parts, eqb-true, false_from_ne_true, or_cases, true≢false}
use Rattle.sip_grammar.specs.HeaderEntry.{entry, header_named, headers, is_named, is_word_of}
use Rattle.sip_grammar.specs.declared.header_name.HeaderName.{HeaderName}
use Rattle.sip_grammar.specs.declared.header_name.HeaderName.TheVariants as name
use Rattle.sip_grammar.proofs.HeaderNames.{long_names}
use Rattle.sip_headers.specs.Named.{is_same}

abbrev lower : List ℕ → List ℕ
lower = map to_ascii_lowercase

-- ---- a name is looked up by its letters

same_bytes : (xs ys : List ℕ) → pointwise eqb xs ys ≡ true → xs ≡ ys
same_bytes [] [] e = refl
same_bytes [] (y ∷ ys) e = absurd cc
same_bytes (x ∷ xs) [] e = absurd cc
same_bytes (x ∷ xs) (y ∷ ys) e =
    let parts = and_parts (eqb x y) (pointwise eqb xs ys) e in
    λ i. eqb-true x y parts.0 i ∷ same_bytes xs ys parts.1 i

same_word : (one other : List ℕ) (word : Option (List ℕ)) → lower one ≡ lower other
    → is_word_of one word ≡ is_word_of other word
same_word one other None e = refl
same_word one other (Some word) e = ap (λ letters. pointwise eqb letters (lower word)) e

same_named : (one other : List ℕ) → lower one ≡ lower other
    → header_named one ≡ header_named other
unfolding is_named
same_named one other e =
    let same : (header : HeaderName) → is_named header one ≡ is_named header other =
    λ header i. pointwise eqb (e i) (lower (entry header).name)
    || same_word one other (entry header).compact e i
    in
    λ i. find (λ header. same header i) headers

compact_names : (header : HeaderName) (word : List ℕ) → (entry header).compact ≡ Some word
    → header_named word ≡ Some header
unfolding is_named
compact_names name.Via word e = ap header_named (sym (same_Some _ word e))
compact_names name.From word e = ap header_named (sym (same_Some _ word e))
compact_names name.To word e = ap header_named (sym (same_Some _ word e))
compact_names name.CallId word e = ap header_named (sym (same_Some _ word e))
compact_names name.Contact word e = ap header_named (sym (same_Some _ word e))
compact_names name.Supported word e = ap header_named (sym (same_Some _ word e))
compact_names name.ContentLength word e = ap header_named (sym (same_Some _ word e))
compact_names header word e = absurd cc

by_word : (header : HeaderName) (text : List ℕ) (word : Option (List ℕ))
    → (entry header).compact ≡ word → is_word_of text word ≡ true
    → header_named text ≡ Some header
by_word header text None e is = absurd cc
by_word header text (Some word) e is =
    same_named text word (same_bytes _ _ is) ∙ compact_names header word e

named_alone : (header : HeaderName) (text : List ℕ) → is_named header text ≡ true
    → header_named text ≡ Some header
unfolding is_named
named_alone header text e =
    elim (or_cases _ _ e) [
      | inl long ↦ same_named text (entry header).name (same_bytes _ _ long) ∙ long_names header
      | inr compact ↦ by_word header text (entry header).compact refl compact
    ]

-- ---- the header that is found

same_is : (one other : HeaderName) → is_same one other ≡ true → one ≡ other
same_is name.Via name.Via e = refl
same_is name.MaxForwards name.MaxForwards e = refl
same_is name.From name.From e = refl
same_is name.To name.To e = refl
same_is name.CallId name.CallId e = refl
same_is name.CSeq name.CSeq e = refl
same_is name.Contact name.Contact e = refl
same_is name.RecordRoute name.RecordRoute e = refl
same_is name.Route name.Route e = refl
same_is name.Require name.Require e = refl
same_is name.Supported name.Supported e = refl
same_is name.RSeq name.RSeq e = refl
same_is name.RAck name.RAck e = refl
same_is name.ContentLength name.ContentLength e = refl
same_is one other e = absurd cc

same_itself : (one : HeaderName) → is_same one one ≡ true
same_itself name.Via = refl
same_itself name.MaxForwards = refl
same_itself name.From = refl
same_itself name.To = refl
same_itself name.CallId = refl
same_itself name.CSeq = refl
same_itself name.Contact = refl
same_itself name.RecordRoute = refl
same_itself name.Route = refl
same_itself name.Require = refl
same_itself name.Supported = refl
same_itself name.RSeq = refl
same_itself name.RAck = refl
same_itself name.ContentLength = refl

found_passes : {X : Type 0} (p : X → Bool) (xs : List X) (x : X) → find p xs ≡ Some x → p x ≡ true
found_passes p [] x e = absurd cc
found_passes {X = X} p (y ∷ ys) x e = by (p y) refl e (found_passes p ys x)
  where
    by : (r : Bool) → p y ≡ r → cond r (Some y) (find p ys) ≡ Some x
        → (find p ys ≡ Some x → p x ≡ true) → p x ≡ true
    by true is found more = subst (λ (z : X). p z ≡ true) (same_Some _ _ found) is
    by false is found more = more found

not_found : (header : HeaderName) (text : List ℕ) (found : Option HeaderName)
    → header_named text ≡ found → is_named header text ≡ false
    → option_map_or (is_same header) found false ≡ false
not_found header text None e is = refl
not_found header text (Some other) e is =
    false_from_ne_true (is_same header other) (λ same.
    true≢false (sym (found_passes (λ h. is_named h text) headers header
    (e ∙ ap Some (sym (same_is header other same)))) ∙ is))

-- the header of a name is this one exactly if the name is one of its names
pub named_by_table : (header : HeaderName) (text : List ℕ)
    → option_map_or (is_same header) (header_named text) false ≡ is_named header text
named_by_table header text = by (is_named header text) refl
  where
    by : (r : Bool) → is_named header text ≡ r
        → option_map_or (is_same header) (header_named text) false ≡ r
    by true is =
        ap (λ found. option_map_or (is_same header) found false) (named_alone header text is)
        ∙ same_itself header
    by false is = not_found header text (header_named text) refl is
