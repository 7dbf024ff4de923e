-- Hexadecimal digits and the letters of escapes, back and forth.
use Rattle.std.proofs.Common.{◌≡◌, ℕ, ◌+◌, ◌*◌, ◌/◌, ◌%◌, ◌<◌, false, eqb, [], ◌∷◌, Some, ap, ◌∙◌, arith}
use Rattle.std.proofs.lemmas.Bool.Decides.{nat_tests}
use Rattle.sip_text.proofs.Options.{bind_some, same_some}
use Rattle.sip_text.specs.Number.{hex_digit}
use Rattle.sip_text.specs.Options.{◌>>=◌}
use Rattle.sip_files.specs.Word.{letter_of, hex_pair}
use Rattle.sip_files.specs.Steps.Reading.{byte_of_letter, hex_value, hex_byte}

pub digit_again : (v : ℕ) → v < 16 → hex_value (hex_digit v) ≡ Some v
digit_again v lt = grind (arith, nat_tests)

pub digit_takes : (d v : ℕ) → hex_value d ≡ Some v → (d ≡ hex_digit v) × (v < 16)
digit_takes d v e = grind (arith, nat_tests)

pub letter_again : (b l : ℕ) → letter_of b ≡ Some l → byte_of_letter l ≡ Some b
letter_again b l e = grind (arith, nat_tests)

pub letter_takes : (l b : ℕ) → byte_of_letter l ≡ Some b → letter_of b ≡ Some l
letter_takes l b e = grind (arith, nat_tests)

pub letter_not_x : (b l : ℕ) → letter_of b ≡ Some l → eqb l 120 ≡ false
letter_not_x b l e = grind (arith, nat_tests)

pub letter_small : (b l : ℕ) → letter_of b ≡ Some l → b < 256
letter_small b l e = grind (arith, nat_tests)

pub pair_takes : (high low b : ℕ) → hex_byte high low ≡ Some b
    → (high ∷ low ∷ [] ≡ hex_pair b) × (b < 256)
unfolding hex_byte
pair_takes high low b e =
    let h = bind_some (hex_value high) (λ h. hex_value low >>= λ l. Some (h * 16 + l)) b e in
    let l = bind_some (hex_value low) (λ l. Some (h.0 * 16 + l)) b h.2 in
    let is : h.0 * 16 + l.0 ≡ b = same_some _ _ l.2 in
    let hd = digit_takes high h.0 h.1 in
    let ld = digit_takes low l.0 l.1 in
    let q : h.0 ≡ b / 16 = omega (arith, is, ld.1) in
    let r : l.0 ≡ b % 16 = omega (arith, is, ld.1) in
    let digits : high ∷ low ∷ [] ≡ hex_digit h.0 ∷ hex_digit l.0 ∷ [] =
    ap (λ (x : ℕ). x ∷ low ∷ []) hd.0 ∙ ap (λ (x : ℕ). hex_digit h.0 ∷ x ∷ []) ld.0 in
    let same : hex_digit h.0 ∷ hex_digit l.0 ∷ [] ≡ hex_pair b =
    ap (λ (x : ℕ). hex_digit x ∷ hex_digit l.0 ∷ []) q
    ∙ ap (λ (x : ℕ). hex_digit (b / 16) ∷ hex_digit x ∷ []) r in
    (digits ∙ same, omega (arith, is, hd.1, ld.1))

pub pair_again : (b : ℕ) → b < 256 → hex_byte (hex_digit (b / 16)) (hex_digit (b % 16)) ≡ Some b
unfolding hex_byte
pair_again b lt =
    let whole : b / 16 * 16 + b % 16 ≡ b = omega arith in
    rw (digit_again (b / 16) (omega arith), digit_again (b % 16) (omega arith))
    (ap (λ n. Some n) whole)
