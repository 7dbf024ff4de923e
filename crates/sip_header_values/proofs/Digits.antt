-- Texts of digits, and the numbers that they stand for.
use Rattle.std.proofs.Common.{◌≡◌, ℕ, ◌^◌, Bool, true, false, cond, ltb, ◌&&◌, List, [], ◌∷◌, Result, Ok, Err, IsTrue, refl, ap}
use Rattle.std.specs.Char.{is_ascii_digit}
use Rattle.std.specs.List.{list_all}
use Rattle.std.specs.Str.{all_ascii_digits}
use Rattle.std.specs.Str.Parse.{digits_value}
use Rattle.std.proofs.lemmas.Bool.{and_parts}
use Rattle.sip_text.specs.Number.{is_digits, number_of}
use Rattle.sip_text.specs.declared.fault.TextFault.{TextFault}
use Rattle.sip_text.specs.declared.fault.TextFault.TheVariants.{NotAToken, NumberTooLarge}

-- only digits, with a value below the limit
abbrev pub is_number : ℕ → List ℕ → Bool
is_number limit word = is_digits word && ltb (digits_value 10 word) limit

-- the word stands for this number
pub record IsNumber (limit number : ℕ) (word : List ℕ) : Type 0 where
  pub is : IsTrue (is_number limit word)
  pub value : digits_value 10 word ≡ number

abbrev told : Bool → Bool → ℕ → Result ℕ TextFault
told digits small number = cond digits (cond small (Ok number) (Err NumberTooLarge)) (Err NotAToken)

told_ok : (digits small : Bool) (number other : ℕ) → told digits small number ≡ Ok other
    → ((digits && small) ≡ true) × (number ≡ other)
told_ok true true number other e = (refl, cc)
told_ok true false number other e = absurd cc
told_ok false small number other e = absurd cc

pub number_is : (text : List ℕ) (number : ℕ) → number_of text ≡ Ok number
    → IsNumber (2 ^ 32) number text
unfolding number_of
number_is text number e =
    let both = told_ok (is_digits text) (ltb (digits_value 10 text) (2 ^ 32))
    (digits_value 10 text) number e in
    record { is = both.0; value = both.1 }

pub number_again : (text : List ℕ) (number : ℕ) → IsNumber (2 ^ 32) number text
    → number_of text ≡ Ok number
unfolding number_of
number_again text number is =
    let both = and_parts (is_digits text) (ltb (digits_value 10 text) (2 ^ 32)) is.is in
    rw (both.0, both.1, is.value) refl

pub all_digits : (text : List ℕ) → all_ascii_digits text ≡ list_all is_ascii_digit text
all_digits [] = refl
all_digits (b ∷ bs) = ap (λ r. is_ascii_digit b && r) (all_digits bs)
