-- A URI that names its scheme, as in sip:bob@192.0.2.9 (RFC 3261, section 25.1).
use Rattle.std.specs.Char.{is_ascii_alphabetic, is_ascii_alphanumeric}
use Rattle.std.specs.Prelude.{ℕ, Bool, false, ◌&&◌, ◌||◌, ◌==◌, List, [], ◌∷◌, Option, None, Some}
use Rattle.std.specs.List.{list_all}
use Rattle.sip_text.specs.Cut.{cut_at}
use Rattle.sip_grammar.specs.Uri.{is_uri}

-- a letter, a digit, or one of + - .
abbrev pub is_scheme_byte : ℕ → Bool
is_scheme_byte b = is_ascii_alphanumeric b || (b == 43) || (b == 45) || (b == 46)

-- such bytes, of which the first is a letter
abbrev pub is_scheme : List ℕ → Bool
is_scheme [] = false
is_scheme (b ∷ bytes) = is_ascii_alphabetic b && list_all is_scheme_byte bytes

-- the part before the first colon, if there is one, is a scheme
abbrev pub has_scheme : Option (List ℕ × List ℕ) → Bool
has_scheme None = false
has_scheme (Some parts) = is_scheme parts.0

unfoldable pub names_scheme : List ℕ → Bool
names_scheme text = has_scheme (cut_at 58 text)

abbrev pub is_absolute : List ℕ → Bool
is_absolute text = is_uri text && names_scheme text
