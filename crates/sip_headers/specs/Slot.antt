-- What was found of a header so far, line by line.
use Rattle.std.specs.Prelude.{◌≡◌, ◌≤◌, ℕ, List, [], ◌∷◌, ◌++◌, Option, Some, None, fold, length}
use Rattle.std.specs.List.{AllZip, IsAmong, flat_map}
use Rattle.sip_headers.specs.declared.slot.Slot.{Slot}
use Rattle.sip_headers.specs.declared.slot.Slot.TheVariants.{Absent, Once, Twice, Bad}

-- one more line of a header that may occur once, and its value if it is in the form
abbrev pub met : {X : Type 0} → Slot X → Option X → Slot X
met Bad value = Bad
met slot None = Bad
met Absent (Some x) = Once x
met (Once y) (Some x) = Twice
met Twice (Some x) = Twice

-- one more line of a list
abbrev pub listed : {X : Type 0} → Option (List X) → Option (List X) → Option (List X)
listed None more = None
listed (Some xs) None = None
listed (Some xs) (Some ys) = Some (xs ++ ys)

abbrev pub slot_from : {X : Type 0} → (List ℕ → Option X) → Slot X → List (List ℕ) → Slot X
slot_from f slot values = fold (λ s value. met s (f value)) slot values

abbrev pub list_from : {X : Type 0} → (List ℕ → Option (List X)) → Option (List X) → List (List ℕ)
    → Option (List X)
list_from f list values = fold (λ s value. listed s (f value)) list values

-- ---- what a slot says of the values of a header

-- a value isn't in the form
abbrev pub HasBad : {X : Type 0} → (X → List ℕ → Type 0) → List (List ℕ) → Type 0
HasBad {X = X} P values = (value : List ℕ) × IsAmong values value × ((x : X) → P x value → ⊥)

abbrev pub IsSlot : {X : Type 0} → (X → List ℕ → Type 0) → Slot X → List (List ℕ) → Type 0
IsSlot P Absent values = values ≡ []
IsSlot P (Once x) values = AllZip P (x ∷ []) values
IsSlot {X = X} P Twice values = (xs : List X) × AllZip P xs values × (2 ≤ length values)
IsSlot P Bad values = HasBad P values

-- the lists of all lines, one after the other
abbrev pub Many : {X : Type 0} → (List X → List ℕ → Type 0) → List X → List (List ℕ) → Type 0
Many {X = X} P xs values =
    (lists : List (List X)) × AllZip P lists values × (xs ≡ flat_map (λ list. list) lists)

-- several lines are one list, in order
abbrev pub IsList : {X : Type 0} → (List X → List ℕ → Type 0) → Option (List X) → List (List ℕ)
    → Type 0
IsList P None values = HasBad P values
IsList P (Some xs) values = Many P xs values
