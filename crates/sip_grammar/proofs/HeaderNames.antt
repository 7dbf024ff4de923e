-- The header of a name.
use Rattle.std.proofs.Common.{◌≡◌, ℕ, suc, Bool, true, false, cond, eqb, List, [], ◌∷◌, length, Option, Some, None, refl, sym, ap, subst, ◌∙◌, inl, inr}
use Rattle.std.specs.Prelude.{find}
use Rattle.std.specs.List.{filter, list_any}
use Rattle.std.specs.Char.{to_ascii_lowercase}
use Rattle.std.specs.Cmp.Lexicographic.{pointwise}
use Rattle.std.specs.Str.{str_eq_ignore_ascii_case}
use Rattle.std.proofs.lemmas.Bool.{and_parts, eq-eqb, false_from_ne_true, ne_eqb, or_cases, or_right, true≢false}
use Rattle.std.proofs.lemmas.List.{length-map}
use Rattle.sip_grammar.specs.HeaderEntry.{entry, header_named, headers, is_named, is_word_of}
use Rattle.sip_grammar.specs.declared.header_name.HeaderName.{HeaderName}
use Rattle.sip_grammar.specs.declared.header_name.HeaderName.TheVariants as name

pub long_names : (header : HeaderName) → header_named (entry header).name ≡ Some header
unfolding is_named
long_names name.Via = refl
long_names name.From = refl
long_names name.To = refl
long_names name.CallId = refl
long_names name.CSeq = refl
long_names name.MaxForwards = refl
long_names name.ContentLength = refl
long_names name.RSeq = refl
long_names name.RAck = refl
long_names name.Contact = refl
long_names name.RecordRoute = refl
long_names name.Route = refl
long_names name.Require = refl
long_names name.Supported = refl

-- ---- headers by the length of their names

abbrev pub compact_length : Option (List ℕ) → List ℕ
compact_length None = []
compact_length (Some word) = length word ∷ []

-- one of its names has so many bytes
abbrev pub has_length : ℕ → HeaderName → Bool
has_length n header =
    list_any (λ m. eqb n m) (length (entry header).name ∷ compact_length (entry header).compact)

paired_length : (xs ys : List ℕ) → pointwise eqb xs ys ≡ true → length xs ≡ length ys
paired_length [] [] e = refl
paired_length [] (y ∷ ys) e = absurd cc
paired_length (x ∷ xs) [] e = absurd cc
paired_length (x ∷ xs) (y ∷ ys) e =
    ap suc (paired_length xs ys (and_parts (eqb x y) (pointwise eqb xs ys) e).1)

same_length : (name word : List ℕ) → str_eq_ignore_ascii_case name word ≡ true
    → length name ≡ length word
same_length name word e =
    sym (length-map name to_ascii_lowercase) ∙ paired_length _ _ e
    ∙ length-map word to_ascii_lowercase

word_length : (name : List ℕ) (word : Option (List ℕ)) → is_word_of name word ≡ true
    → list_any (λ m. eqb (length name) m) (compact_length word) ≡ true
word_length name None e = absurd cc
word_length name (Some word) e = rw (eq-eqb _ _ (same_length name word e)) refl

named_length : (header : HeaderName) (name : List ℕ) → is_named header name ≡ true
    → has_length (length name) header ≡ true
unfolding is_named
named_length header name e =
    elim (or_cases _ _ e) [
      | inl long ↦ rw (eq-eqb _ _ (same_length name (entry header).name long)) refl
      | inr compact ↦ or_right _ _ (word_length name (entry header).compact compact)
    ]

found_among : {X : Type 0} (p q : X → Bool) → ((x : X) → p x ≡ true → q x ≡ true) → (xs : List X)
    → find p (filter q xs) ≡ find p xs
found_among p q only [] = refl
found_among p q only (x ∷ xs) = by (q x) refl (found_among p q only xs)
  where
    by : (r : Bool) → q x ≡ r → find p (filter q xs) ≡ find p xs
        → find p (cond r (x ∷ filter q xs) (filter q xs)) ≡ find p (x ∷ xs)
    by true is more = ap (λ o. cond (p x) (Some x) o) more
    by false is more =
        let fails : p x ≡ false = false_from_ne_true (p x) (λ h. true≢false (sym (only x h) ∙ is))
        in
        rw fails more

-- a name is looked up among the headers with a name of its length
pub of_its_length : (n : ℕ) (name : List ℕ) → length name ≡ n
    → find (λ header. is_named header name) (filter (has_length n) headers) ≡ header_named name
of_its_length n name long =
    found_among (λ header. is_named header name) (has_length n)
    (λ header is. subst (λ m. has_length m header ≡ true) long (named_length header name is))
    headers

-- there are none with a name of another length
pub no_other_length : (n : ℕ) → ¬ (n ≡ 1) → ¬ (n ≡ 2) → ¬ (n ≡ 3) → ¬ (n ≡ 4) → ¬ (n ≡ 5)
    → ¬ (n ≡ 7) → ¬ (n ≡ 9) → ¬ (n ≡ 12) → ¬ (n ≡ 14) → filter (has_length n) headers ≡ []
no_other_length n a b c d e f g h i =
    rw (
      ne_eqb n 1 a,
      ne_eqb n 2 b,
      ne_eqb n 3 c,
      ne_eqb n 4 d,
      ne_eqb n 5 e,
      ne_eqb n 7 f,
      ne_eqb n 9 g,
      ne_eqb n 12 h,
      ne_eqb n 14 i,
    )
    refl
