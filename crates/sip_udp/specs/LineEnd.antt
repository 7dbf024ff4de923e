-- Texts without the end of a line.
use Rattle.std.specs.Prelude.{ℕ, ◌==◌, if◌then◌else◌, List, [], ◌∷◌, Option, Some, None, take}
use Rattle.sip_text.specs.Cut.{cut_at}

-- the text without this byte at its end, if it ends with it
abbrev pub without_last : ℕ → List ℕ → List ℕ
without_last byte [] = []
without_last byte (b ∷ []) = if b == byte then [] else b ∷ []
without_last byte (b ∷ c ∷ bs) = b ∷ without_last byte (c ∷ bs)

-- the part before a cut, or all of a text that isn't cut
abbrev pub before_cut : List ℕ → Option (List ℕ × List ℕ) → List ℕ
before_cut text None = text
before_cut text (Some parts) = parts.0

-- the first line of a text, without its end, and no more than 200 bytes of it: a peer may send
-- 65,507 bytes without a line's end
abbrev pub first_line : List ℕ → List ℕ
first_line text = take 200 (without_last 13 (before_cut text (cut_at 10 text)))
