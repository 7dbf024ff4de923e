-- What is read before the first separator of a text, and what follows it.
use Rattle.std.specs.Prelude.{ℕ, ◌==◌, List, [], ◌∷◌, Option, Some, None, if◌then◌else◌}
use Rattle.std.specs.Option.{option_copied}
use Rattle.std.specs.Borrow.{Bor}
use Rattle.sip_text.specs.Forms.{told, both, on_cut}
use Rattle.sip_text.specs.declared.separator.Separator.{Separator}

abbrev pub goes_on : {A : Type 0} → A → Option (Option A)
goes_on after = Some (Some after)

abbrev pub ends : {X A : Type 0} → X → X × Option A
ends x = (x, None)

-- the value of the text before the first separator that counts, and the text after it, or nothing
-- if there is no such separator
abbrev pub first : {X : Type 0} → Separator → (List ℕ → Option X) → List ℕ
    → Option (X × Option (List ℕ))
first at f text = on_cut at (both f goes_on) (told ends f) text

-- nothing at the end of the text, or what follows this byte, with which the text begins
abbrev pub behind : ℕ → List ℕ → Option (Option (List ℕ))
behind byte [] = Some None
behind byte (b ∷ bs) = if b == byte then Some (Some bs) else None

-- what a value and a reference after it point to
abbrev pub first_now : {R X : Type 0} → (R → X) → R × Option (Bor (List ℕ)) → X × Option (List ℕ)
first_now now found = (now found.0, option_copied found.1)
