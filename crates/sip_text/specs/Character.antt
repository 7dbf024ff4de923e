-- The bytes that SIP's words are made of (RFC 3261, section 25.1).
use Rattle.std.specs.Prelude.{ℕ, Bool, ◌||◌, ◌==◌, List, codes}
use Rattle.std.specs.List.{list_any}
use Rattle.std.specs.Char.{is_ascii_alphanumeric}

-- one of these bytes
abbrev pub is_among : List ℕ → ℕ → Bool
is_among bytes b = list_any (λ c. c == b) bytes

-- a space or a tab: the white space inside a line
abbrev pub is_blank : ℕ → Bool
is_blank b = b == 32 || b == 9

-- a byte of a line end: CR or LF
abbrev pub is_line_byte : ℕ → Bool
is_line_byte b = b == 13 || b == 10

-- a letter, a digit, or one of the ten marks of a token
unfoldable pub is_token_byte : ℕ → Bool
is_token_byte b = is_ascii_alphanumeric b || is_among (codes "-.!%*_+`'~") b
