-- Tokens, which are compared whatever their case (RFC 3261, sections 7.3.1 and 25.1).
use Rattle.std.specs.Prelude.{ℕ, Bool, false, List, [], ◌∷◌}
use Rattle.std.specs.List.{list_all}
unfoldable pub use Rattle.sip_text.specs.Character.{is_token_byte}

-- at least one byte, and each passes the test
abbrev pub is_run : (ℕ → Bool) → List ℕ → Bool
is_run test [] = false
is_run test (b ∷ bs) = list_all test (b ∷ bs)

-- one or more such bytes
unfoldable pub is_token : List ℕ → Bool
is_token text = is_run is_token_byte text
