-- A number has one spelling: what is read is spelled that way, and that spelling is read.
use Rattle.std.proofs.Common.{◌≡◌, ◌≢◌, ℕ, zero, suc, ◌^◌, ◌<◌, ◌≤◌, true, false, cond, not, eqb, leb, ◌&&◌, List, [], ◌∷◌, length, get_or, Some, None, refl, sym, ap, subst, ◌∙◌, arith, rules, decimal}
use Rattle.std.specs.List.{list_all}
use Rattle.std.specs.Char.{is_ascii_digit}
use Rattle.std.specs.Str.Parse.{digits_value}
use Rattle.std.proofs.lemmas.Bool.{and_parts, and_from, leb-true, le-leb, ne_eqb, not_from_false, true≢false, not-true}
use Rattle.std.proofs.lemmas.Str.Parse.{IsNumeralModel, IsDigitsTest, numerals_by_value}
use Rattle.std.proofs.lemmas.Fmt.{digits_decimal, digits_value-decimal, decimal_nonempty, decimal_digit, first_decimal, decimal-digits_value}
use Rattle.sip_text.specs.Number.{is_numeral, number_at}
use Rattle.sip_text.proofs.Cuts.{Reads, has_no, digits_have_no}
use Rattle.sip_text.proofs.Options.{passed}

digits_test : IsDigitsTest (λ ds. list_all is_ascii_digit ds ≡ true)
digits_test = search rules

own : IsNumeralModel (λ ds. list_all is_ascii_digit ds ≡ true) (digits_value 10)
own = numerals_by_value _ digits_test

record Numeral (ds : List ℕ) : Type 0 where
  digits : list_all is_ascii_digit ds ≡ true
  some : 0 < length ds
  lead : get_or ds 0 0 ≡ 48 → length ds ≡ 1

numeral_parts : (ds : List ℕ) → is_numeral ds ≡ true → Numeral ds
numeral_parts [] e = absurd cc
numeral_parts (b ∷ []) e =
    record { digits = and_from _ _ e refl; some = omega arith; lead = λ h. refl }
numeral_parts (b ∷ c ∷ bs) e =
    let parts = and_parts (not (eqb b 48)) (list_all is_ascii_digit (b ∷ c ∷ bs)) e in
    let other : eqb b 48 ≡ false = not-true (eqb b 48) parts.0 in
    record {
      digits = parts.1;
      some = omega arith;
      lead = λ h. absurd (true≢false (sym (ap (λ (x : ℕ). eqb x 48) h) ∙ other));
    }

numeral_from : (ds : List ℕ) → list_all is_ascii_digit ds ≡ true → 0 < length ds
    → (1 < length ds → get_or ds 0 0 ≢ 48) → is_numeral ds ≡ true
numeral_from [] all some lead = absurd (omega arith)
numeral_from (b ∷ []) all some lead = (and_parts _ _ all).0
numeral_from (b ∷ c ∷ bs) all some lead =
    and_from _ _ (not_from_false _ (ne_eqb b 48 (lead (omega arith)))) all

leads : (n : ℕ) → n < 2 ^ 64 → 1 < length (decimal n) → get_or (decimal n) 0 0 ≢ 48
leads zero lt two = let one : length (decimal 0) ≡ 1 = ap length (decimal_digit 0 (omega arith)) in
    absurd (omega (arith, one))
leads (suc n) lt two = λ is. absurd (omega (arith, first_decimal (suc n) (omega arith) lt, is))

pub number_took : (most : ℕ) → most < 2 ^ 64 → (field : List ℕ) (n : ℕ)
    → number_at most field ≡ Some n → (n ≤ most) × (field ≡ decimal n)
unfolding number_at
number_took most lt field n e =
    let g = passed (is_numeral field && leb (digits_value 10 field) most)
    (digits_value 10 field) n e in
    let parts = and_parts (is_numeral field) (leb (digits_value 10 field) most) g.0 in
    let small = leb-true (digits_value 10 field) most parts.1 in
    let numeral = numeral_parts field parts.0 in
    let P : ℕ → Type 0 = λ m. (m ≤ most) × (field ≡ decimal m) in
    subst P g.1 (
      small,
      sym (decimal-digits_value own field numeral.digits numeral.some numeral.lead
          (omega (arith, small, lt))),
    )

pub number_again : (most : ℕ) → most < 2 ^ 64 → (n : ℕ) → n ≤ most
    → number_at most (decimal n) ≡ Some n
unfolding number_at
number_again most lt n le =
    let fits : n < 2 ^ 64 = omega (arith, le, lt) in
    let value = digits_value-decimal own n fits in
    let numeral = numeral_from (decimal n) (digits_decimal own n fits) (decimal_nonempty n fits)
    (leads n fits) in
    let small : leb (digits_value 10 (decimal n)) most ≡ true =
    le-leb _ _ (omega (arith, value, le)) in
    ap (λ r. cond r (Some (digits_value 10 (decimal n))) None) (and_from _ _ numeral small)
    ∙ ap (λ m. Some m) value

pub number_reads : (most : ℕ) → most < 2 ^ 64 → Reads (λ n. n ≤ most) decimal (number_at most)
number_reads most lt = record { took = number_took most lt; again = number_again most lt }

pub decimal_digits : (n : ℕ) → n < 2 ^ 64 → list_all is_ascii_digit (decimal n) ≡ true
decimal_digits n fits = digits_decimal own n fits

-- a byte that isn't a digit doesn't occur in a number
pub number_has_no : (at n : ℕ) → is_ascii_digit at ≡ false → n < 2 ^ 64
    → has_no at (decimal n) ≡ true
number_has_no at n fails fits = digits_have_no at (decimal n) fails (decimal_digits n fits)
