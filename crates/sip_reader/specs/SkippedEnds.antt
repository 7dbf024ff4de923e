-- The line ends at the start of a text, skipped from left to right.
use Rattle.std.specs.Prelude.{ℕ, List, [], ◌∷◌, ◌==◌, ◌&&◌, if◌then◌else◌}

-- the text without the line ends that it begins with
abbrev pub without_line_ends : List ℕ → List ℕ
without_line_ends [] = []
without_line_ends (b ∷ []) = if b == 10 then [] else b ∷ []
without_line_ends (b ∷ c ∷ bs) =
    if b == 10 then without_line_ends (c ∷ bs)
    else (if b == 13 && c == 10 then without_line_ends bs else b ∷ c ∷ bs)
