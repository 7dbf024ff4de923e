-- What is written has no line ends inside its lines and no white space at the ends of its values.
use Rattle.std.proofs.Common.{◌≡◌, ℕ, ◌^◌, ◌<◌, Bool, true, false, cond, eqb, not, ◌&&◌, List, [], ◌∷◌, ◌++◌, codes, decimal, refl, sym, ap, ◌∙◌}
use Rattle.std.specs.Char.{is_ascii_digit}
use Rattle.std.specs.List.{list_all}
use Rattle.std.specs.Str.{all_ascii_digits}
use Rattle.std.specs.Str.Parse.{digits_value}
use Rattle.std.proofs.lemmas.Bool.{and_parts, and_from, and_right, or_parts, not-true, true≢false}
use Rattle.std.proofs.lemmas.Fmt.{digits_value-decimal, decimal_nonempty}
use Rattle.std.proofs.lemmas.List.{append-nil}
use Rattle.std.proofs.lemmas.List.Folds.{list_all-append}
use Rattle.std.proofs.lemmas.Str.Parse.{numerals_by_value, tells_all_ascii_digits}
use Rattle.sip_text.specs.Character.{is_blank, is_line_byte, is_token_byte}
use Rattle.sip_text.specs.Number.{is_digits}
use Rattle.sip_text.specs.Token.{is_token}
use Rattle.sip_text.specs.Trimmed.{trimmed, trimmed_end}
use Rattle.sip_grammar.specs.HeaderValue.{has_no_blank_ends, has_no_line_byte, is_header_value}
use Rattle.sip_text.specs.Parameter.{is_value_byte, is_value_word}
use Rattle.sip_grammar.specs.Uri.{is_uri_byte, is_uri}
use Rattle.sip_grammar.specs.Word.{is_word_byte, is_word}
use Rattle.sip_text.specs.Lines.{has_no}
use Rattle.sip_text.proofs.Numerals.{decimal_digits as each_is_digit}
use Rattle.sip_text.proofs.Runs.{run_from_all}
use Rattle.sip_grammar.proofs.Bytes.{none_of}
use Rattle.sip_grammar.proofs.BlankEnds.{trims_to_itself}
use Rattle.sip_grammar.proofs.Blanks.{end_is, starts_full}
use Rattle.sip_grammar.proofs.Characters.{token_bytes, full_at}
use Rattle.sip_grammar.proofs.Cuts.{all_imply, run_all}

-- ---- bytes that neither end a line nor are white space

abbrev pub is_solid : ℕ → Bool
is_solid b = not (is_blank b) && not (is_line_byte b)

abbrev pub solid : List ℕ → Bool
solid text = list_all is_solid text

pub solid_byte : (test : ℕ → Bool) → test 32 ≡ false → test 9 ≡ false → test 13 ≡ false
    → test 10 ≡ false → (b : ℕ) → test b ≡ true → is_solid b ≡ true
solid_byte test space tab cr lf b passes =
    rw (
      full_at test b 32 space passes,
      full_at test b 9 tab passes,
      full_at test b 13 cr passes,
      full_at test b 10 lf passes,
    ) refl

pub token_solid : (text : List ℕ) → is_token text ≡ true → solid text ≡ true
unfolding is_token_byte
token_solid text token = all_imply is_token_byte is_solid
    (solid_byte is_token_byte refl refl refl refl) text (token_bytes text token)

pub word_solid : (text : List ℕ) → is_word text ≡ true → solid text ≡ true
unfolding is_word is_word_byte
word_solid text word = all_imply is_word_byte is_solid
    (solid_byte is_word_byte refl refl refl refl) text (run_all is_word_byte text word)

pub uri_solid : (text : List ℕ) → is_uri text ≡ true → solid text ≡ true
unfolding is_uri is_uri_byte
uri_solid text uri = all_imply is_uri_byte is_solid
    (solid_byte is_uri_byte refl refl refl refl) text (run_all is_uri_byte text uri)

pub value_solid : (text : List ℕ) → is_value_word text ≡ true → solid text ≡ true
unfolding is_value_word is_value_byte
value_solid text value = all_imply is_value_byte is_solid
    (solid_byte is_value_byte refl refl refl refl) text (run_all is_value_byte text value)

pub digits_solid : (text : List ℕ) → is_digits text ≡ true → solid text ≡ true
digits_solid text digits = all_imply is_ascii_digit is_solid
    (solid_byte is_ascii_digit refl refl refl refl) text (run_all is_ascii_digit text digits)

pub solid_both : (one other : List ℕ) → solid one ≡ true → solid other ≡ true
    → solid (one ++ other) ≡ true
solid_both one other p q =
    list_all-append is_solid one other ∙ and_from (solid one) (solid other) p q

pub solid_full : (b : ℕ) → is_solid b ≡ true → not (is_blank b) ≡ true
solid_full b s = (and_parts (not (is_blank b)) (not (is_line_byte b)) s).0

solid_plain : (b : ℕ) → is_solid b ≡ true → not (is_line_byte b) ≡ true
solid_plain b s = (and_parts (not (is_blank b)) (not (is_line_byte b)) s).1

pub solid_line : (text : List ℕ) → solid text ≡ true → has_no_line_byte text ≡ true
solid_line text s = all_imply is_solid (λ b. not (is_line_byte b)) solid_plain text s

pub no_lf : (text : List ℕ) → has_no_line_byte text ≡ true → has_no 10 text ≡ true
no_lf text plain =
    all_imply (λ b. not (is_line_byte b)) (λ b. not (eqb b 10))
    (λ b p. ap not (or_parts (eqb b 13) (eqb b 10) (not-true (is_line_byte b) p)).1) text plain

-- ---- the ends of a value

pub solid_end : (text : List ℕ) → solid text ≡ true → trimmed_end text ≡ text
solid_end text s =
    ap trimmed_end (sym (append-nil text))
    ∙ end_is text [] (all_imply is_solid (λ b. not (is_blank b)) solid_full text s) refl

pub solid_kept : (text : List ℕ) → solid text ≡ true → trimmed text ≡ text
solid_kept [] s = refl
solid_kept (b ∷ bs) s =
    let here = not-true (is_blank b)
    (solid_full b (and_parts (is_solid b) (list_all is_solid bs) s).0) in
    ap trimmed_end (starts_full b bs here) ∙ solid_end (b ∷ bs) s

some_full : (b : ℕ) (bs : List ℕ) (r : Bool) → cond r [] (b ∷ trimmed_end bs) ≡ b ∷ bs → r ≡ false
some_full b bs true e = absurd cc
some_full b bs false e = refl

-- a longer text keeps its end if its last part does
pub longer_end : (front : List ℕ) (b : ℕ) (bs : List ℕ) → trimmed_end (b ∷ bs) ≡ b ∷ bs
    → trimmed_end (front ++ (b ∷ bs)) ≡ front ++ (b ∷ bs)
longer_end [] b bs e = e
longer_end (c ∷ cs) b bs e =
    let some : list_all is_blank (b ∷ bs) ≡ false =
    some_full b bs (is_blank b && list_all is_blank bs) e in
    let all : list_all is_blank (cs ++ (b ∷ bs)) ≡ false =
    list_all-append is_blank cs (b ∷ bs)
    ∙ and_right (list_all is_blank cs) (list_all is_blank (b ∷ bs)) some in
    rw (and_right (is_blank c) (list_all is_blank (cs ++ (b ∷ bs))) all, longer_end cs b bs e) refl

pub header_value_kept : (value : List ℕ) → is_header_value value ≡ true → trimmed value ≡ value
unfolding is_header_value
header_value_kept value is =
    trims_to_itself value (and_parts (has_no_blank_ends value) (has_no_line_byte value) is).0

pub header_value_plain : (value : List ℕ) → is_header_value value ≡ true
    → has_no_line_byte value ≡ true
unfolding is_header_value
header_value_plain value is = (and_parts (has_no_blank_ends value) (has_no_line_byte value) is).1

-- ---- decimal numbers

pub decimal_digits : (n : ℕ) → n < 2 ^ 64 → is_digits (decimal n) ≡ true
decimal_digits n lt =
    run_from_all is_ascii_digit (decimal n) (decimal_nonempty n lt) (each_is_digit n lt)

pub decimal_value : (n : ℕ) → n < 2 ^ 64 → digits_value 10 (decimal n) ≡ n
decimal_value n lt = digits_value-decimal
    (numerals_by_value (λ ds. all_ascii_digits ds ≡ true) tells_all_ascii_digits) n lt

pub digits_word : (text : List ℕ) → is_digits text ≡ true → is_word text ≡ true
unfolding is_word is_word_byte
digits_word [] digits = absurd (true≢false (sym digits))
digits_word (b ∷ bs) digits =
    all_imply is_ascii_digit is_word_byte
    (λ c d. ap not (none_of is_ascii_digit (codes " \t\r\n") c refl d)) (b ∷ bs) digits
