-- A header line whose header isn't in the table can be kept as it is.
use Rattle.std.proofs.Common.{◌≡◌, inl, inr, ℕ, Bool, true, false, not, cond, ◌&&◌, ◌||◌, List, [], ◌∷◌, Option, Some, None, IsTrue, refl, sym, ap, ◌∙◌, codes}
use Rattle.std.specs.Prelude.{is_none, is_some}
use Rattle.std.specs.List.{AllByRecursion, AllZip, list_all}
use Rattle.std.specs.Str.{str_eq_ignore_ascii_case}
use Rattle.std.proofs.lemmas.Bool.{and_parts}
use Rattle.sip_text.specs.Character.{is_blank, is_line_byte, is_token_byte}
use Rattle.sip_text.specs.Token.{is_token}
use Rattle.sip_text.specs.Trimmed.{trimmed, trimmed_end, trimmed_start}
use Rattle.sip_grammar.proofs.BlankEnds.{trimmed_has_none}
use Rattle.sip_grammar.specs.HeaderEntry.{header_named, is_named}
use Rattle.sip_grammar.specs.HeaderValue.{has_no_blank_ends, has_no_line_byte, is_header_value}
use Rattle.sip_grammar.specs.OtherName.{is_compact_name, is_other_name}
use Rattle.sip_grammar.specs.declared.header_name.HeaderName.{HeaderName}
use Rattle.sip_message.specs.declared.header.Header.{Header}
use Rattle.sip_headers.specs.HeaderFields.{long_name}
use Rattle.sip_headers.specs.HeaderLine.{Class, bad, known, other, IsHeaderLine, class_by_name, class_by_parts, class_from, line_from}
use Rattle.sip_headers.specs.Headers.{IsOther}
use Rattle.sip_headers.specs.Named.{others_in}
use Rattle.sip_headers.proofs.NamedLines.{line_reads}

and_both : (x y : Bool) → x ≡ true → y ≡ true → (x && y) ≡ true
and_both x y e f = rw (e, f) refl

-- ---- a value of one line

plain_by : (b : ℕ) (bs less : List ℕ) (out : Bool) → has_no_line_byte (b ∷ bs) ≡ true
    → has_no_line_byte less ≡ true → has_no_line_byte (cond out less (b ∷ bs)) ≡ true
plain_by b bs less true all more = more
plain_by b bs less false all more = all

plain_start : (text : List ℕ) → has_no_line_byte text ≡ true
    → has_no_line_byte (trimmed_start text) ≡ true
plain_start [] all = refl
plain_start (b ∷ bs) all =
    plain_by b bs (trimmed_start bs) (is_blank b) all
    (plain_start bs (and_parts (not (is_line_byte b)) (has_no_line_byte bs) all).1)

plain_end : (text : List ℕ) → has_no_line_byte text ≡ true
    → has_no_line_byte (trimmed_end text) ≡ true
plain_end [] all = refl
plain_end (b ∷ bs) all =
    let parts = and_parts (not (is_line_byte b)) (has_no_line_byte bs) all in
    cut_by b (is_blank b && list_all is_blank bs) (trimmed_end bs) parts.0 (plain_end bs parts.1)
  where
    cut_by : (c : ℕ) (out : Bool) (more : List ℕ) → not (is_line_byte c) ≡ true
        → has_no_line_byte more ≡ true → has_no_line_byte (cond out [] (c ∷ more)) ≡ true
    cut_by c true more e all = refl
    cut_by c false more e all = and_both (not (is_line_byte c)) (has_no_line_byte more) e all

value_fits : (text : List ℕ) → has_no_line_byte text ≡ true → is_header_value (trimmed text) ≡ true
unfolding is_header_value
value_fits text plain =
    and_both (has_no_blank_ends (trimmed text)) (has_no_line_byte (trimmed text))
    (trimmed_has_none text) (plain_end (trimmed_start text) (plain_start text plain))

-- ---- a name

name_by : (name : List ℕ) (c s e : Bool) → str_eq_ignore_ascii_case name (codes "c") ≡ c
    → str_eq_ignore_ascii_case name (codes "s") ≡ s
    → str_eq_ignore_ascii_case name (codes "e") ≡ e → is_token name ≡ true
    → is_none (header_named name) ≡ true
    → is_other_name (cond c (codes "Content-Type")
    (cond s (codes "Subject") (cond e (codes "Content-Encoding") name))) ≡ true
unfolding is_compact_name is_named is_other_name is_token is_token_byte
name_by name true s e f g h token none = refl
name_by name false true e f g h token none = refl
name_by name false false true f g h token none = refl
name_by name false false false f g h token none =
    and_both (is_token name) (not (is_some (header_named name) || is_compact_name name)) token
    (ap not (or_neither (header_named name) (is_compact_name name) none
    (rw (f, g, h) refl)))
  where
    or_neither : (o : Option HeaderName) (compact : Bool) → is_none o ≡ true → compact ≡ false
        → (is_some o || compact) ≡ false
    or_neither None compact is not_compact = not_compact
    or_neither (Some header) compact is not_compact = absurd cc

name_fits : (name : List ℕ) → is_token name ≡ true → is_none (header_named name) ≡ true
    → is_other_name (long_name name) ≡ true
unfolding long_name
name_fits name token none =
    name_by name (str_eq_ignore_ascii_case name (codes "c"))
    (str_eq_ignore_ascii_case name (codes "s")) (str_eq_ignore_ascii_case name (codes "e")) refl
    refl refl token none

-- ---- a line

abbrev name_in : Class → List ℕ
name_in bad = []
name_in (known header value) = []
name_in (other name value) = name

abbrev value_in : Class → List ℕ
value_in bad = []
value_in (known header value) = []
value_in (other name value) = value

line_fits : (parts : List ℕ × List ℕ) (line : List ℕ) → IsHeaderLine parts line
    → is_none (header_named parts.0) ≡ true → (header : Header) × IsOther header parts
line_fits parts line (inr whole) none = absurd whole.1
line_fits parts line (inl cut) none =
    let named = cut.2.0 in
    let valued = cut.2.1 in
    let token : is_token parts.0 ≡ true = ap is_token named.0 ∙ named.1 in (
      record { name = long_name parts.0; value = parts.1 },
      record {
        name_is = refl;
        value_is = refl;
        good_name = name_fits parts.0 token none;
        good_value = ap is_header_value valued.1
            ∙ value_fits valued.0 (ap has_no_line_byte valued.2.0 ∙ valued.2.1);
      },
    )

fits_by_name : (line : List ℕ) (parts : List ℕ × List ℕ) (o : Option HeaderName)
    (name value : List ℕ) → IsHeaderLine parts line → header_named parts.0 ≡ o
    → class_by_name parts.0 parts.1 o ≡ other name value
    → IsTrue (is_other_name (long_name name)) × IsTrue (is_header_value value)
fits_by_name line parts None name value is none same =
    let fits = line_fits parts line is (ap is_none none) in (
      ap is_other_name (ap long_name (sym (ap name_in same)) ∙ sym fits.1.name_is)
          ∙ fits.1.good_name,
      ap is_header_value (sym (ap value_in same) ∙ sym fits.1.value_is) ∙ fits.1.good_value,
    )
fits_by_name line parts (Some header) name value is some same = absurd cc

fits_by_parts : (line : List ℕ) (o : Option (List ℕ × List ℕ)) (name value : List ℕ)
    → line_from line ≡ o → class_by_parts o ≡ other name value
    → IsTrue (is_other_name (long_name name)) × IsTrue (is_header_value value)
fits_by_parts line None name value read same = absurd cc
fits_by_parts line (Some parts) name value read same =
    fits_by_name line parts (header_named parts.0) name value (line_reads.takes line parts read)
    refl
    same

-- the name and the value of a line whose header isn't in the table can be kept
pub other_fits : (line name value : List ℕ) → class_from line ≡ other name value
    → IsTrue (is_other_name (long_name name)) × IsTrue (is_header_value value)
other_fits line name value same = fits_by_parts line (line_from line) name value refl same

kept_by : (parts : List ℕ × List ℕ) (more : List (List ℕ × List ℕ)) (none : Bool)
    → (none ≡ true → (header : Header) × IsOther header parts)
    → AllByRecursion (λ other. (header : Header) × IsOther header other) more
    → AllByRecursion (λ other. (header : Header) × IsOther header other)
    (cond none (parts ∷ more) more)
kept_by parts more true one all = (one refl, all)
kept_by parts more false one all = all

pub others_fit : (named : List (List ℕ × List ℕ)) (lines : List (List ℕ))
    → AllZip IsHeaderLine named lines
    → AllByRecursion (λ other. (header : Header) × IsOther header other) (others_in named)
others_fit [] [] all = tt
others_fit [] (line ∷ lines) all = absurd all
others_fit (parts ∷ named) [] all = absurd all
others_fit (parts ∷ named) (line ∷ lines) all =
    kept_by parts (others_in named) (is_none (header_named parts.0))
    (line_fits parts line all.0) (others_fit named lines all.1)
