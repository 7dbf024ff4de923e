-- A quoted string (RFC 3261, section 25.1).
use Rattle.std.specs.Prelude.{◌≡◌, ℕ, Bool, true, false, ◌==◌, IsTrue, IsFalse, List, [], ◌∷◌, ◌++◌, ◌||◌, not, if◌then◌else◌}
use Rattle.std.specs.List.{AllByRecursion, concat}
use Rattle.sip_text.specs.Character.{is_line_byte}

-- not a quote, a backslash or a byte that ends a line
abbrev pub is_plain_byte : ℕ → Bool
is_plain_byte b = not (b == 34 || (b == 92 || is_line_byte b))

-- a byte that stands for itself, or a backslash and a byte
abbrev pub IsUnit : List ℕ → Type 0
IsUnit (b ∷ []) = IsTrue (is_plain_byte b)
IsUnit (b ∷ (c ∷ [])) = (b ≡ 92) × IsFalse (is_line_byte c)
IsUnit other = ⊥

-- a quote, such units, and a quote
pub record IsQuoted (text : List ℕ) : Type 0 where
  pub units : List (List ℕ)
  pub parts : text ≡ 34 ∷ (concat units ++ (34 ∷ []))
  pub each : AllByRecursion IsUnit units

-- ---- the same, from left to right

-- an empty text
abbrev pub is_nothing : List ℕ → Bool
is_nothing [] = true
is_nothing (b ∷ bs) = false

-- The text goes on to the closing quote, which is its last byte. After a backslash any byte is
-- plain.
abbrev pub ends_in_quote : Bool → List ℕ → Bool
ends_in_quote escaped [] = false
ends_in_quote escaped (b ∷ bs) =
    if is_line_byte b then false
    else (if escaped then ends_in_quote false bs
    else (if b == 92 then ends_in_quote true bs
    else (if b == 34 then is_nothing bs
    else ends_in_quote false bs)))

-- the test of a quoted string
unfoldable pub is_quoted : List ℕ → Bool
is_quoted [] = false
is_quoted (b ∷ bs) = if b == 34 then ends_in_quote false bs else false
