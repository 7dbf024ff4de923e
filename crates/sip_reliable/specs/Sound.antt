-- What is always true of the responses that wait, whatever calls were made.
use Rattle.std.specs.Prelude.{◌≤◌, ℕ, ◌+◌, ◌==◌, IsTrue, List, [], ◌∷◌, length}
use Rattle.std.specs.List.{list_any}
use Rattle.sip_reliable.specs.declared.provisional.TheConstants.{MOST_WAITING}
use Rattle.sip_reliable.specs.Provisional.{Provisional}

-- their numbers rise; they are `low` or more, and below `next`
abbrev pub Rise : ℕ → ℕ → List Provisional → Type 0
Rise low next [] = low ≤ next
Rise low next (p ∷ ps) = (low ≤ p.number) × Rise (p.number + 1) next ps

-- `first` is the first number and `next` the next one
pub record IsSound (first next : ℕ) (waiting : List Provisional) : Type 0 where
  pub rise : Rise first next waiting
  pub room : length waiting ≤ MOST_WAITING
  pub alone : IsTrue (list_any (λ p. p.number == first) waiting) → length waiting ≤ 1
