-- The lines of a message: which split of the whole text is right (RFC 3261, sections 7 and 7.3.1).
-- Line ends at the start of a text are skipped; that is this project's choice (section 7.5: for
-- streams).
use Rattle.std.specs.Prelude.{◌≡◌, ℕ, List, [], ◌∷◌, ◌++◌, replicate}
use Rattle.std.specs.List.{AllByRecursion}
use Rattle.sip_text.specs.Lines.{IsLines}
use Rattle.sip_headers.specs.Folding.{whole_lines}

-- Empty lines that are skipped, the start line, the header lines, the empty line that ends them,
-- and the rest. A line that begins with white space continues the line before it.
pub record Lays (text start : List ℕ) (lines : List (List ℕ)) (rest : List ℕ) : Type 0 where
  pub skipped : ℕ
  pub first : List ℕ
  pub more : List (List ℕ)
  pub parts : IsLines text (replicate skipped [] ++ (first ∷ (more ++ ([] ∷ [])))) rest
  pub first_is : first ≡ [] → ⊥
  pub more_are : AllByRecursion (λ line. line ≡ [] → ⊥) more
  pub whole : start ∷ lines ≡ whole_lines (first ∷ more)
