-- How a field spells a text of any bytes: as a word, or as a rest, which is always the last field
-- of its line. A byte stands for itself or is escaped. Each text has one spelling in each form.
use Rattle.std.specs.Prelude.{ℕ, Bool, not, ◌&&◌, ◌||◌, ◌==◌, ◌/◌, ◌%◌, nat_le, nat_lt, List, [], ◌∷◌, length, Option, Some, None, codes, if◌then◌else◌}
use Rattle.sip_text.specs.Number.{hex_digit}
use Rattle.std.specs.List.{flat_map, list_all}
use Rattle.std.specs.Str.{bytes_eq}

-- a byte from `!` to `~` other than the backslash
abbrev pub is_plain : ℕ → Bool
is_plain b = nat_le 33 b && nat_le b 126 && not (b == 92)

abbrev pub is_plain_or_space : ℕ → Bool
is_plain_or_space b = is_plain b || b == 32

-- the letter of a byte with a short escape: a space, CR, LF, a tab and the backslash
abbrev pub letter_of : ℕ → Option ℕ
letter_of b =
    if b == 32 then Some 115
    else if b == 13 then Some 114
    else if b == 10 then Some 110
    else if b == 9 then Some 116
    else if b == 92 then Some 92
    else None

abbrev pub hex_pair : ℕ → List ℕ
hex_pair b = hex_digit (b / 16) ∷ hex_digit (b % 16) ∷ []

-- `\` and the letter, or `\x` and two digits
abbrev pub escape_with : ℕ → Option ℕ → List ℕ
escape_with b (Some letter) = 92 ∷ letter ∷ []
escape_with b None = 92 ∷ 120 ∷ hex_pair b

-- a byte; `is_itself` says which bytes stand for themselves
unfoldable pub spelled_byte : (ℕ → Bool) → ℕ → List ℕ
spelled_byte is_itself b = if is_itself b then b ∷ [] else escape_with b (letter_of b)

abbrev pub spelled_bytes : (ℕ → Bool) → List ℕ → List ℕ
spelled_bytes is_itself text = flat_map (spelled_byte is_itself) text

-- the word of a text: the empty text is a hyphen, and the text of one hyphen is escaped
unfoldable pub spelled_word : List ℕ → List ℕ
spelled_word text =
    if length text == 0 then codes "-"
    else if bytes_eq text (codes "-") then codes "\\x2d"
    else spelled_bytes is_plain text

-- the rest of a text, in which a space stands for itself too
unfoldable pub spelled_rest : List ℕ → List ℕ
spelled_rest text = spelled_bytes is_plain_or_space text

-- a text that has a spelling: its numbers are bytes
abbrev pub are_bytes : List ℕ → Bool
are_bytes text = list_all (λ b. nat_lt b 256) text
