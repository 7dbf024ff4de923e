-- A text without the spaces and tabs at its ends.
use Rattle.std.specs.Prelude.{ℕ, List, [], ◌∷◌, ◌&&◌, if◌then◌else◌}
use Rattle.std.specs.List.{list_all}
use Rattle.sip_text.specs.Character.{is_blank}

-- without the blanks at its start
abbrev pub trimmed_start : List ℕ → List ℕ
trimmed_start [] = []
trimmed_start (b ∷ bs) = if is_blank b then trimmed_start bs else b ∷ bs

-- without the blanks at its end
abbrev pub trimmed_end : List ℕ → List ℕ
trimmed_end [] = []
trimmed_end (b ∷ bs) = if is_blank b && list_all is_blank bs then [] else b ∷ trimmed_end bs

-- without both
abbrev pub trimmed : List ℕ → List ℕ
trimmed text = trimmed_end (trimmed_start text)
