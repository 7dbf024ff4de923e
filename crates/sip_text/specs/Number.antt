-- Numbers in decimal digits (RFC 3261, section 25.1), and digits in base 16.
use Rattle.std.specs.Prelude.{ℕ, ◌+◌, ◌^◌, Bool, false, not, ◌&&◌, ◌==◌, List, [], ◌∷◌, Option, Some, None, Result, Ok, Err, nat_lt, nat_le, if◌then◌else◌}
use Rattle.std.specs.Char.{is_ascii_digit}
use Rattle.std.specs.List.{list_all}
use Rattle.std.specs.Str.Parse.{digits_value}
use Rattle.sip_text.specs.Token.{is_run}
use Rattle.sip_text.specs.declared.fault.TextFault.{TextFault}
use Rattle.sip_text.specs.declared.fault.TextFault.TheVariants.{NotAToken, NumberTooLarge}

-- ---- any digits, up to 2 ^ 32 - 1

-- one digit or more, and nothing else
abbrev pub is_digits : List ℕ → Bool
is_digits text = is_run is_ascii_digit text

-- the number that a text of digits stands for, leading zeros and all
unfoldable pub number_of : List ℕ → Result ℕ TextFault
number_of text =
    if is_digits text
    then (if nat_lt (digits_value 10 text) (2 ^ 32) then Ok (digits_value 10 text)
    else Err NumberTooLarge)
    else Err NotAToken

-- ---- one spelling for each number, up to a maximum

-- digits, of which the first isn't zero if there are several
abbrev pub is_numeral : List ℕ → Bool
is_numeral [] = false
is_numeral (b ∷ []) = is_ascii_digit b
is_numeral (b ∷ c ∷ bs) = not (b == 48) && list_all is_ascii_digit (b ∷ c ∷ bs)

-- the number, at most `most`, whose one spelling the text is
unfoldable pub number_at : ℕ → List ℕ → Option ℕ
number_at most text =
    if is_numeral text && nat_le (digits_value 10 text) most then Some (digits_value 10 text)
    else None

-- ---- base 16

-- a digit, in lower case: `0` is 48, and `a` for ten is 87 + 10
abbrev pub hex_digit : ℕ → ℕ
hex_digit value = if nat_lt value 10 then 48 + value else 87 + value
