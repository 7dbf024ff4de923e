-- The lines of a text (RFC 3261, section 7). A line ends in CR LF or in LF alone, which is this
-- project's choice.
use Rattle.std.specs.Prelude.{◌≡◌, ◌==◌, ℕ, not, Bool, IsTrue, List, [], ◌∷◌, ◌++◌}
use Rattle.std.specs.List.{list_all}
use Rattle.std.specs.Str.Lines.{strip_carriage_return}

-- this byte isn't in the text
abbrev pub has_no : ℕ → List ℕ → Bool
has_no byte text = list_all (λ b. not (b == byte)) text

-- The text is a line with its end, and what follows.
pub record IsLine (text line after : List ℕ) : Type 0 where
  pub part : List ℕ
  pub parts : text ≡ part ++ (10 ∷ after)
  pub one : IsTrue (has_no 10 part)
  pub stripped : line ≡ strip_carriage_return part

-- The text is these lines, each with its end, and then the rest.
abbrev pub IsLines : List ℕ → List (List ℕ) → List ℕ → Type 0
IsLines text [] rest = text ≡ rest
IsLines text (line ∷ lines) rest =
    (after : List ℕ) × IsLine text line after × IsLines after lines rest

-- All the lines of the text that have their end; what follows them has no end.
pub record AreLines (lines : List (List ℕ)) (text : List ℕ) : Type 0 where
  pub rest : List ℕ
  pub parts : IsLines text lines rest
  pub no_more : IsTrue (has_no 10 rest)
