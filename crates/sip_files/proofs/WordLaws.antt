-- Words and rests: what is read is spelled that way, and that spelling is read.
use Rattle.std.proofs.Common.{◌≡◌, ℕ, zero, suc, ◌<◌, Bool, true, false, cond, eqb, List, [], ◌∷◌, ◌++◌, length, Option, Some, None, refl, sym, ap, subst, ◌∙◌, arith, inl, inr, codes}
use Rattle.std.specs.Str.{bytes_eq}
use Rattle.std.proofs.lemmas.Bool.{eqb-true, ne_eqb, and_parts, and_from, ltb-true, lt-ltb, cases_Bool, false≢true, false_from_ne_true}
use Rattle.std.proofs.lemmas.List.{nil_from_length}
use Rattle.std.proofs.lemmas.Slice.Eq.{bytes_eq-Decides}
use Rattle.sip_text.proofs.Options.{bind_some, chosen, same_some}
use Rattle.sip_text.specs.Options.{◌>>=◌}
use Rattle.sip_files.specs.Word.{is_plain, is_plain_or_space, spelled_byte, spelled_bytes, spelled_word, spelled_rest, are_bytes}
use Rattle.sip_files.specs.Steps.Reading.{hex_byte, hex_at, escape_at, byte_at, bytes_from, bytes_at, word_at, rest_at}
use Rattle.sip_files.proofs.Escapes.{IsSound, plain_sound, plain_or_space_sound, byte_took, byte_again, spelled_longer, after_byte, onto, bytes_at-step}

-- ---- bytes

pub bytes_took : (t : ℕ → Bool) (n : ℕ) (text bytes : List ℕ) → IsSound t
    → bytes_from t n text ≡ Some bytes → (text ≡ spelled_bytes t bytes) × (are_bytes bytes ≡ true)
bytes_took t zero [] bytes sound e =
    let P : List ℕ → Type 0 = λ y. ([] ≡ spelled_bytes t y) × (are_bytes y ≡ true) in
    subst P (same_some [] bytes e) (refl, refl)
bytes_took t zero (c ∷ cs) bytes sound e = absurd cc
bytes_took t (suc n) [] bytes sound e =
    let P : List ℕ → Type 0 = λ y. ([] ≡ spelled_bytes t y) × (are_bytes y ≡ true) in
    subst P (same_some [] bytes e) (refl, refl)
bytes_took t (suc n) (c ∷ cs) bytes sound e =
    let x = bind_some (byte_at t (c ∷ cs))
    (λ p. bytes_from t n p.1 >>= λ more. Some (p.0 ∷ more)) bytes e in
    let y = bind_some (bytes_from t n x.0.1) (λ more. Some (x.0.0 ∷ more)) bytes x.2 in
    let first = byte_took t (c ∷ cs) x.0.0 x.0.1 sound x.1 in
    let others = bytes_took t n x.0.1 y.0 sound y.1 in
    let P : List ℕ → Type 0 = λ z. (c ∷ cs ≡ spelled_bytes t z) × (are_bytes z ≡ true) in
    subst P (same_some (x.0.0 ∷ y.0) bytes y.2) (
      first.parts ∙ ap (λ (r : List ℕ). spelled_byte t x.0.0 ++ r) others.0,
      and_from _ _ (lt-ltb x.0.0 256 first.small) others.1,
    )

longer_than : (xs ys : List ℕ) → 0 < length xs → 0 < length (xs ++ ys)
longer_than [] ys some = absurd (omega arith)
longer_than (b ∷ bs) ys some = omega arith

pub bytes_again : (t : ℕ → Bool) (bytes : List ℕ) → IsSound t → are_bytes bytes ≡ true
    → bytes_at t (spelled_bytes t bytes) ≡ Some bytes
unfolding bytes_at
bytes_again t [] sound fits = refl
bytes_again t (b ∷ bs) sound fits =
    let parts = and_parts _ _ fits in
    let some = longer_than (spelled_byte t b) (spelled_bytes t bs) (spelled_longer t b) in
    bytes_at-step t (spelled_byte t b ++ spelled_bytes t bs) sound some
    ∙ ap (after_byte t) (byte_again t b (spelled_bytes t bs) sound (ltb-true b 256 parts.0))
    ∙ ap (onto (b ∷ [])) (bytes_again t bs sound parts.1)

-- ---- rests

pub rest_took : (field text : List ℕ) → rest_at field ≡ Some text
    → (are_bytes text ≡ true) × (field ≡ spelled_rest text)
unfolding rest_at spelled_rest bytes_at
rest_took field text e =
    let t = bytes_took is_plain_or_space (length field) field text plain_or_space_sound e in
    (t.1, t.0)

pub rest_again : (text : List ℕ) → are_bytes text ≡ true → rest_at (spelled_rest text) ≡ Some text
unfolding rest_at spelled_rest
rest_again text fits = bytes_again is_plain_or_space text plain_or_space_sound fits

-- ---- words

abbrev pub hyphen : List ℕ
hyphen = codes "-"

abbrev pub escaped_hyphen : List ℕ
escaped_hyphen = codes "\\x2d"

-- how the word of a text is made
abbrev pub word_by : Bool → Bool → List ℕ → List ℕ
word_by empty is_hyphen text =
    cond empty hyphen (cond is_hyphen escaped_hyphen (spelled_bytes is_plain text))

-- how a word is read
abbrev read_by : Bool → Bool → Bool → List ℕ → Option (List ℕ)
read_by empty is_hyphen is_escaped field =
    cond empty None (cond is_hyphen (Some [])
    (cond is_escaped (Some hyphen) (bytes_at is_plain field)))

pub word_is : (text : List ℕ) (empty is_hyphen : Bool) → eqb (length text) 0 ≡ empty
    → bytes_eq text hyphen ≡ is_hyphen → spelled_word text ≡ word_by empty is_hyphen text
unfolding spelled_word
word_is text empty is_hyphen e h =
    ap (λ r. word_by r (bytes_eq text hyphen) text) e ∙ ap (λ r. word_by empty r text) h

reads_by : (field : List ℕ) (empty is_hyphen is_escaped : Bool) → eqb (length field) 0 ≡ empty
    → bytes_eq field hyphen ≡ is_hyphen → bytes_eq field escaped_hyphen ≡ is_escaped
    → word_at field ≡ read_by empty is_hyphen is_escaped field
unfolding word_at
reads_by field empty is_hyphen is_escaped e h x =
    ap (λ r. read_by r (bytes_eq field hyphen) (bytes_eq field escaped_hyphen) field) e
    ∙ ap (λ r. read_by empty r (bytes_eq field escaped_hyphen) field) h
    ∙ ap (λ r. read_by empty is_hyphen r field) x

hyphen_itself : spelled_bytes is_plain hyphen ≡ hyphen
unfolding spelled_byte
hyphen_itself = refl

hyphen_read : bytes_at is_plain hyphen ≡ Some hyphen
unfolding bytes_at byte_at
hyphen_read = refl

escaped_not_read : bytes_at is_plain escaped_hyphen ≡ None
unfolding bytes_at byte_at escape_at hex_at hex_byte
escaped_not_read = refl

word_of_nothing : spelled_word [] ≡ hyphen
unfolding spelled_word
word_of_nothing = refl

word_of_hyphen : spelled_word hyphen ≡ escaped_hyphen
unfolding spelled_word
word_of_hyphen = refl

nothing_from_hyphen : word_at hyphen ≡ Some []
unfolding word_at
nothing_from_hyphen = refl

hyphen_from_escaped : word_at escaped_hyphen ≡ Some hyphen
unfolding word_at
hyphen_from_escaped = refl

is_nothing : (text : List ℕ) → eqb (length text) 0 ≡ true → text ≡ []
is_nothing text e = nil_from_length text (eqb-true (length text) 0 e)

same_text : (xs ys : List ℕ) → bytes_eq xs ys ≡ true → xs ≡ ys
same_text xs ys e = (bytes_eq-Decides xs ys).0 e

text_same : (xs ys : List ℕ) → xs ≡ ys → bytes_eq xs ys ≡ true
text_same xs ys e = (bytes_eq-Decides xs ys).1 e

-- a text whose bytes spell a field that is neither empty nor a hyphen
plain_word : (field text : List ℕ) → field ≡ spelled_bytes is_plain text
    → eqb (length field) 0 ≡ false → bytes_eq field hyphen ≡ false
    → spelled_word text ≡ spelled_bytes is_plain text
plain_word field text is some unlike =
    word_is text false false (false_from_ne_true _
    (λ e. false≢true (sym some ∙ ap (λ (t : List ℕ). eqb (length t) 0)
    (is ∙ ap (spelled_bytes is_plain) (is_nothing text e)))))
    (false_from_ne_true _ (λ e. false≢true
    (sym unlike ∙ text_same field hyphen
    (is ∙ ap (spelled_bytes is_plain) (same_text text hyphen e) ∙ hyphen_itself))))

pub word_took : (field text : List ℕ) → word_at field ≡ Some text
    → (are_bytes text ≡ true) × (field ≡ spelled_word text)
unfolding word_at bytes_at
word_took field text e =
    let P : List ℕ → Type 0 = λ y. (are_bytes y ≡ true) × (field ≡ spelled_word y) in
    elim (chosen (eqb (length field) 0) None
    (cond (bytes_eq field hyphen) (Some [])
    (cond (bytes_eq field escaped_hyphen) (Some hyphen) (bytes_at is_plain field)))
    (Some text) e) [
      | inl a ↦ absurd (let no : ◌≡◌ {A = Option (List ℕ)} None (Some text) = a.1 in cc)
      | inr a ↦ elim (chosen (bytes_eq field hyphen) (Some [])
          (cond (bytes_eq field escaped_hyphen) (Some hyphen) (bytes_at is_plain field))
          (Some text) a.1) [
            | inl b ↦ subst P (same_some [] text b.1)
                (refl, same_text field hyphen b.0 ∙ sym word_of_nothing)
            | inr b ↦ elim (chosen (bytes_eq field escaped_hyphen) (Some hyphen)
                (bytes_at is_plain field) (Some text) b.1) [
                  | inl d ↦ subst P (same_some hyphen text d.1)
                      (refl, same_text field escaped_hyphen d.0 ∙ sym word_of_hyphen)
                  | inr d ↦
                      (let t = bytes_took is_plain (length field) field text plain_sound d.1 in
                      (t.1, t.0 ∙ sym (plain_word field text t.0 a.0 b.0)))
                ]
          ]
    ]

-- what is read from a spelling tells it from another field
differs : (text field : List ℕ) (r : Option (List ℕ))
    → bytes_at is_plain (spelled_bytes is_plain text) ≡ Some text → bytes_at is_plain field ≡ r
    → (Some text ≡ r → ⊥) → bytes_eq (spelled_bytes is_plain text) field ≡ false
differs text field r again is apart =
    false_from_ne_true _ (λ e. apart
    (sym again ∙ ap (bytes_at is_plain) (same_text (spelled_bytes is_plain text) field e) ∙ is))

longer_spelling : (text : List ℕ) → eqb (length text) 0 ≡ false
    → eqb (length (spelled_bytes is_plain text)) 0 ≡ false
longer_spelling [] e = e
longer_spelling (b ∷ bs) e =
    let some = longer_than (spelled_byte is_plain b) (spelled_bytes is_plain bs)
    (spelled_longer is_plain b) in
    ne_eqb _ 0 (λ h. omega (arith, some, h))

plain_again : (text : List ℕ) → are_bytes text ≡ true → eqb (length text) 0 ≡ false
    → bytes_eq text hyphen ≡ false → word_at (spelled_bytes is_plain text) ≡ Some text
plain_again text fits some unlike =
    let again = bytes_again is_plain text plain_sound fits in
    let no_hyphen = differs text hyphen (Some hyphen) again hyphen_read
    (λ e. false≢true (sym unlike ∙ text_same text hyphen (same_some text hyphen e))) in
    let no_escape = differs text escaped_hyphen None again escaped_not_read (λ e. absurd cc) in
    reads_by (spelled_bytes is_plain text) false false false
    (longer_spelling text some) no_hyphen no_escape ∙ again

pub word_again : (text : List ℕ) → are_bytes text ≡ true → word_at (spelled_word text) ≡ Some text
word_again text fits =
    elim (cases_Bool (eqb (length text) 0)) [
      | inl e ↦ (let P : List ℕ → Type 0 = λ t. word_at (spelled_word t) ≡ Some t in
          subst P (sym (is_nothing text e)) (ap word_at word_of_nothing ∙ nothing_from_hyphen))
      | inr e ↦ elim (cases_Bool (bytes_eq text hyphen)) [
        | inl h ↦ (let P : List ℕ → Type 0 = λ t. word_at (spelled_word t) ≡ Some t in
            subst P (sym (same_text text hyphen h))
            (ap word_at word_of_hyphen ∙ hyphen_from_escaped))
        | inr h ↦ ap word_at (word_is text false false e h) ∙ plain_again text fits e h
      ]
    ]

-- two different texts have different words
pub one_word : (text other : List ℕ) → are_bytes text ≡ true → are_bytes other ≡ true
    → spelled_word text ≡ spelled_word other → text ≡ other
one_word text other fits others_fit same =
    same_some text other (sym (word_again text fits) ∙ ap word_at same
    ∙ word_again other others_fit)

pub one_rest : (text other : List ℕ) → are_bytes text ≡ true → are_bytes other ≡ true
    → spelled_rest text ≡ spelled_rest other → text ≡ other
one_rest text other fits others_fit same =
    same_some text other (sym (rest_again text fits) ∙ ap rest_at same
    ∙ rest_again other others_fit)
