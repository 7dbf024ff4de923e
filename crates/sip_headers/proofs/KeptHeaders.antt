-- Header lines, and those of their headers that are kept as they are.
use Rattle.std.proofs.Common.{◌≡◌, ◌⊎◌, inl, inr, ℕ, Bool, true, false, List, [], ◌∷◌, ◌++◌, cond, Option, Some, None, fold, refl, sym, ap, subst, ◌∙◌, append_assoc}
use Rattle.std.specs.Prelude.{is_none}
use Rattle.std.specs.List.{AllZip, AllByRecursion}
use Rattle.std.proofs.lemmas.List.{append-nil}
use Rattle.std.proofs.lemmas.Option.{same_Some, none-some}
use Rattle.sip_grammar.specs.HeaderEntry.{header_named}
use Rattle.sip_grammar.specs.HeaderValue.{is_header_value}
use Rattle.sip_grammar.specs.OtherName.{is_other_name}
use Rattle.sip_grammar.specs.declared.header_name.HeaderName.{HeaderName}
use Rattle.sip_message.specs.declared.header.Header.{Header}
use Rattle.sip_headers.specs.HeaderFields.{long_name, other_from, no_header_fields, draft_of}
use Rattle.sip_headers.specs.HeaderLine.{class_by_name, class_by_parts, line_from}
use Rattle.sip_headers.specs.Headers.{IsOther}
use Rattle.sip_headers.specs.Section.{is_bad_class, has_bad_line, others_of}
use Rattle.sip_headers.specs.Slot.{listed}
use Rattle.sip_headers.specs.declared.header_fields.HeaderFields.{HeaderFields}
use Rattle.sip_headers.proofs.Drafts.{fold-with_line}
use Rattle.sip_headers.proofs.NamedLines.{IsSomeHeaderLine, line_reads}

-- ---- header lines

class_good : (name value : List ℕ) (o : Option HeaderName) (rest : Bool)
    → is_bad_class (class_by_name name value o) rest ≡ rest
class_good name value None rest = refl
class_good name value (Some header) rest = refl

pub good_lines : (lines : List (List ℕ)) → AllByRecursion IsSomeHeaderLine lines
    → has_bad_line lines ≡ false
good_lines [] all = refl
good_lines (line ∷ lines) all =
    ap (λ o. is_bad_class (class_by_parts o) (has_bad_line lines))
    (line_reads.again line all.0.0 all.0.1)
    ∙ class_good all.0.0.0 all.0.0.1 (header_named all.0.0.0) (has_bad_line lines)
    ∙ good_lines lines all.1

line_is_by : (line : List ℕ) (rest : Bool) (o : Option (List ℕ × List ℕ)) → line_from line ≡ o
    → is_bad_class (class_by_parts o) rest ≡ false → IsSomeHeaderLine line × (rest ≡ false)
line_is_by line rest None is e = absurd cc
line_is_by line rest (Some parts) is e = (
  (parts, line_reads.takes line parts is),
  sym (class_good parts.0 parts.1 (header_named parts.0) rest) ∙ e,
)

pub lines_are : (lines : List (List ℕ)) → has_bad_line lines ≡ false
    → AllByRecursion IsSomeHeaderLine lines
lines_are [] e = tt
lines_are (line ∷ lines) e =
    let parts = line_is_by line (has_bad_line lines) (line_from line) refl e in
    (parts.0, lines_are lines parts.1)

pub no_good_lines : (lines : List (List ℕ)) → has_bad_line lines ≡ true
    → AllByRecursion IsSomeHeaderLine lines → ⊥
no_good_lines lines e all = let f : true ≡ false = sym e ∙ good_lines lines all in cc

-- ---- headers that are kept as they are

abbrev pub with_other : Option (List Header) → List ℕ × List ℕ → Option (List Header)
with_other list other = listed list (other_from other.0 other.1)

other_again : (kept : Header) (other : List ℕ × List ℕ) → IsOther kept other
    → other_from other.0 other.1 ≡ Some (kept ∷ [])
other_again kept other is =
    let named : is_other_name (long_name other.0) ≡ true =
    ap is_other_name (sym is.name_is) ∙ is.good_name in
    let valued : is_header_value other.1 ≡ true =
    ap is_header_value (sym is.value_is) ∙ is.good_value in
    let kept_is : ◌≡◌ {A = Header} (record { name = long_name other.0; value = other.1 }) kept =
    λ i. record { name = sym is.name_is i; value = sym is.value_is i } in
    ap (λ b. cond b (cond (is_header_value other.1)
    (Some ((record { name = long_name other.0; value = other.1 }) ∷ [])) None) None) named
    ∙ ap (λ b. cond b (Some ((record { name = long_name other.0; value = other.1 }) ∷ [])) None)
    valued
    ∙ ap (λ (k : Header). Some (k ∷ [])) kept_is

pub others_list : (front kept : List Header) (others : List (List ℕ × List ℕ))
    → AllZip IsOther kept others → fold with_other (Some front) others ≡ Some (front ++ kept)
others_list front [] [] all = ap (λ xs. Some xs) (sym (append-nil front))
others_list front [] (o ∷ os) all = absurd all
others_list front (k ∷ kept) [] all = absurd all
others_list front (k ∷ kept) (o ∷ os) all =
    ap (λ x. fold with_other (listed (Some front) x) os) (other_again k o all.0)
    ∙ others_list (front ++ k ∷ []) kept os all.1
    ∙ ap (λ xs. Some xs) (append_assoc front (k ∷ []) kept)

none_stays : (others : List (List ℕ × List ℕ)) → fold with_other None others ≡ None
none_stays [] = refl
none_stays (o ∷ os) = none_stays os

record Kept (front all : List Header) (others : List (List ℕ × List ℕ)) : Type 0 where
  pub kept : List Header
  pub parts : all ≡ front ++ kept
  pub each : AllZip IsOther kept others

other_by : (name value : List ℕ) (a b : Bool) → is_other_name (long_name name) ≡ a
    → is_header_value value ≡ b → (o : Option (List Header))
    → cond a (cond b (Some ((record { name = long_name name; value = value }) ∷ [])) None) None ≡ o
    → (o ≡ None) ⊎ ((kept : Header) × (o ≡ Some (kept ∷ [])) × IsOther kept (name, value))
other_by name value true true f g o e =
    inr (
      record { name = long_name name; value = value },
      sym e,
      record { name_is = refl; value_is = refl; good_name = f; good_value = g },
    )
other_by name value true false f g o e = inl (sym e)
other_by name value false b f g o e = inl (sym e)

others_take : (front all : List Header) (others : List (List ℕ × List ℕ))
    → fold with_other (Some front) others ≡ Some all → Kept front all others
others_take front all [] e =
    record { kept = []; parts = sym (same_Some front all e) ∙ sym (append-nil front); each = tt }
others_take front all (o ∷ os) e =
    elim (other_by o.0 o.1 (is_other_name (long_name o.0)) (is_header_value o.1) refl refl
    (other_from o.0 o.1) refl) [
      | inl none ↦
          let gone : Some all ≡ None =
          sym e ∙ ap (λ x. fold with_other (listed (Some front) x) os) none ∙ none_stays os in
          absurd (none-some all (sym gone))
      | inr one ↦
          let more = others_take (front ++ one.0 ∷ []) all os
          (sym (ap (λ x. fold with_other (listed (Some front) x) os) one.1) ∙ e) in
          record {
            kept = one.0 ∷ more.kept;
            parts = more.parts ∙ append_assoc front (one.0 ∷ []) more.kept;
            each =
                (one.2, more.each);
          }
    ]

pub others_column : (lines : List (List ℕ))
    → (draft_of lines).others ≡ fold with_other (Some []) (others_of lines)
others_column lines = ap (λ (d : HeaderFields). d.others) (fold-with_line no_header_fields lines)

pub others_are : (kept : List Header) (lines : List (List ℕ)) → (draft_of lines).others ≡ Some kept
    → AllZip IsOther kept (others_of lines)
others_are kept lines e =
    let k = others_take [] kept (others_of lines) (sym (others_column lines) ∙ e) in
    subst (λ (hs : List Header). AllZip IsOther hs (others_of lines)) (sym k.parts) k.each

kept_of : (others : List (List ℕ × List ℕ))
    → AllByRecursion (λ other. (header : Header) × IsOther header other) others
    → (kept : List Header) × AllZip IsOther kept others
kept_of [] all = ([], tt)
kept_of (o ∷ os) all = let more = kept_of os all.1 in (all.0.0 ∷ more.0, (all.0.1, more.1))

-- if each of the other headers can be kept, none is lost
pub others_list_from : (lines : List (List ℕ))
    → AllByRecursion (λ other. (header : Header) × IsOther header other) (others_of lines)
    → is_none (draft_of lines).others ≡ true → ⊥
others_list_from lines all none =
    let kept = kept_of (others_of lines) all in
    let some : is_none (draft_of lines).others ≡ false =
    ap is_none (others_column lines ∙ others_list [] kept.0 (others_of lines) kept.1) in
    let f : true ≡ false = sym none ∙ some in
    cc
