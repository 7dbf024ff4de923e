-- The scheme of a URI: a letter, and then letters, digits, `+`, `-` and `.` (RFC 3261, section
-- 25.1).
use Rattle.std.specs.Prelude.{ℕ, Bool, false, ◌&&◌, ◌||◌, ◌==◌, List, [], ◌∷◌}
use Rattle.std.specs.Char.{is_ascii_alphabetic, is_ascii_alphanumeric}
use Rattle.std.specs.List.{list_all}

abbrev pub is_scheme_byte : ℕ → Bool
is_scheme_byte byte = is_ascii_alphanumeric byte || (byte == 43 || (byte == 45 || byte == 46))

abbrev pub is_scheme : List ℕ → Bool
is_scheme [] = false
is_scheme (first ∷ text) = is_ascii_alphabetic first && list_all is_scheme_byte (first ∷ text)
