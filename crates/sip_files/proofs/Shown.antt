-- Which bytes stand in a field: no space or line end in a word or a number, and no line end in a
-- rest.
use Rattle.std.proofs.Common.{◌≡◌, ℕ, ◌/◌, ◌%◌, ◌≤◌, Bool, true, false, cond, not, eqb, List, [], ◌∷◌, Option, Some, None, refl, ap, ◌∙◌, arith, codes, length}
use Rattle.std.specs.List.{flat_map}
use Rattle.std.specs.Str.{bytes_eq}
use Rattle.std.proofs.lemmas.Bool.{and_from}
use Rattle.std.proofs.lemmas.Bool.Decides.{nat_tests}
use Rattle.sip_text.proofs.Cuts.{has_no, has_no-append, none_passing}
use Rattle.sip_text.specs.Number.{hex_digit}
use Rattle.sip_files.specs.Word.{is_plain, is_plain_or_space, letter_of, hex_pair, spelled_byte, spelled_bytes, spelled_word, spelled_rest}
use Rattle.sip_files.proofs.Escapes.{spelled_itself, spelled_letter, spelled_hex}
use Rattle.sip_files.proofs.WordLaws.{word_is}

-- ---- words and rests

-- a byte that isn't written in an escape and doesn't stand for itself
record Hidden (t : ℕ → Bool) (at : ℕ) : Type 0 where
  itself : t at ≡ false
  low : at ≤ 32

letter_differs : (at b l : ℕ) → at ≤ 32 → letter_of b ≡ Some l → not (eqb l at) ≡ true
letter_differs at b l low is = grind (arith, nat_tests)

digit_differs : (at v : ℕ) → at ≤ 32 → not (eqb (hex_digit v) at) ≡ true
digit_differs at v low = grind (arith, nat_tests)

mark_differs : (at c : ℕ) → at ≤ 32 → 33 ≤ c → not (eqb c at) ≡ true
mark_differs at c low high = grind (arith, nat_tests)

pub pair_no : (at b : ℕ) → at ≤ 32 → has_no at (hex_pair b) ≡ true
pair_no at b low =
    and_from _ _ (digit_differs at (b / 16) low) (and_from _ _ (digit_differs at (b % 16) low) refl)

pub pairs_no : (at : ℕ) (bytes : List ℕ) → at ≤ 32 → has_no at (flat_map hex_pair bytes) ≡ true
pairs_no at [] low = refl
pairs_no at (b ∷ bs) low =
    has_no-append at (hex_pair b) (flat_map hex_pair bs) (pair_no at b low) (pairs_no at bs low)

byte_no : (t : ℕ → Bool) (at b : ℕ) (r : Bool) (o : Option ℕ) → Hidden t at → t b ≡ r
    → letter_of b ≡ o → has_no at (spelled_byte t b) ≡ true
byte_no t at b true o hidden h g =
    ap (has_no at) (spelled_itself t b h)
    ∙ none_passing t at (b ∷ []) hidden.itself (and_from _ _ h refl)
byte_no t at b false None hidden h g =
    ap (has_no at) (spelled_hex t b h g)
    ∙ and_from _ _ (mark_differs at 92 hidden.low (omega arith))
    (and_from _ _ (mark_differs at 120 hidden.low (omega arith)) (pair_no at b hidden.low))
byte_no t at b false (Some l) hidden h g =
    ap (has_no at) (spelled_letter t b l h g)
    ∙ and_from _ _ (mark_differs at 92 hidden.low (omega arith))
    (and_from _ _ (letter_differs at b l hidden.low g) refl)

bytes_no : (t : ℕ → Bool) (at : ℕ) (text : List ℕ) → Hidden t at
    → has_no at (spelled_bytes t text) ≡ true
bytes_no t at [] hidden = refl
bytes_no t at (b ∷ bs) hidden =
    has_no-append at (spelled_byte t b) (spelled_bytes t bs)
    (byte_no t at b (t b) (letter_of b) hidden refl refl) (bytes_no t at bs hidden)

word_no_by : (at : ℕ) (text : List ℕ) (empty is_hyphen : Bool) → at ≤ 32 → is_plain at ≡ false
    → has_no at (cond empty (codes "-")
    (cond is_hyphen (codes "\\x2d") (spelled_bytes is_plain text))) ≡ true
word_no_by at text true is_hyphen low hidden =
    and_from _ _ (mark_differs at 45 low (omega arith)) refl
word_no_by at text false true low hidden =
    and_from _ _ (mark_differs at 92 low (omega arith))
    (and_from _ _ (mark_differs at 120 low (omega arith))
    (and_from _ _ (mark_differs at 50 low (omega arith))
    (and_from _ _ (mark_differs at 100 low (omega arith)) refl)))
word_no_by at text false false low hidden =
    bytes_no is_plain at text (record { itself = hidden; low = low })

pub word_no : (at : ℕ) (text : List ℕ) → at ≤ 32 → is_plain at ≡ false
    → has_no at (spelled_word text) ≡ true
word_no at text low hidden =
    ap (has_no at) (word_is text (eqb (length text) 0) (bytes_eq text (codes "-")) refl refl)
    ∙ word_no_by at text (eqb (length text) 0) (bytes_eq text (codes "-")) low hidden

pub rest_no : (at : ℕ) (text : List ℕ) → at ≤ 32 → is_plain_or_space at ≡ false
    → has_no at (spelled_rest text) ≡ true
unfolding spelled_rest
rest_no at text low hidden =
    bytes_no is_plain_or_space at text (record { itself = hidden; low = low })
