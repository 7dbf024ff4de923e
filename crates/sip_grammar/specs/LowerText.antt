-- A text in lower case: branches and hosts are compared without case (RFC 3261, section 7.3.1).
use Rattle.std.specs.Prelude.{ℕ, Bool, not, List}
use Rattle.std.specs.Char.{is_ascii_uppercase}
use Rattle.std.specs.List.{list_all}

-- a text without capital letters
unfoldable pub is_lower_text : List ℕ → Bool
is_lower_text text = list_all (λ b. not (is_ascii_uppercase b)) text
