-- A key in one of several tables is due.
use Rattle.std.specs.Prelude.{◌≡◌, ◌⊎◌, ℕ, List, [], ◌∷◌, Option, Some}
use Rattle.std.specs.declared.cmp.Ordering.{Ordering}
use Rattle.keyed_machine.specs.Machine.{due_of}
use Rattle.keyed_machine.specs.Table.{Held, state_at}

-- a key that one of the tables holds is due at this moment
abbrev pub IsDueIn : {K S : Type 0} → (K → K → Ordering) → (S → Option ℕ) → ℕ → List (Held K S)
    → Type 0
IsDueIn {K} cmp due at [] = ⊥
IsDueIn {K} cmp due at (table ∷ tables) =
    ((key : K) × (due_of due (state_at cmp table key) ≡ Some at)) ⊎ IsDueIn cmp due at tables
