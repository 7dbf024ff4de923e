-- What machines say: each key's outputs beside the key.
use Rattle.std.specs.Prelude.{◌≡◌, Bool, true, false, cond, List, [], ◌∷◌, ◌++◌, Option, map, filter}
use Rattle.std.specs.List.Sorted.{IsPermutation, IsStrictlySortedBy}
use Rattle.std.specs.declared.cmp.Ordering.{Ordering}
use Rattle.std.specs.declared.vec.Vec.{Vec}
use Rattle.keyed_machine.specs.Machine.{Machine, adds}

-- there is an output
abbrev pub speaks : {O : Type 0} → List O → Bool
speaks [] = false
speaks (output ∷ outputs) = true

-- the outputs of one key, added at the end of what was told, if it has any
abbrev pub with_said : {K O : Type 0} → List (K × List O) → K → List O → List (K × List O)
with_said told key outputs = told ++ cond (speaks outputs) ((key, outputs) ∷ []) []

-- groups of outputs, as lists
abbrev pub groups : {L O Z : Type 0} → List (L × Vec O Z) → List (L × List O)
groups told = map (λ group. (group.0, group.1.items)) told

-- the outputs of each of some keys to a tick, if it has any
abbrev pub told_ticks : {K S I O : Type 0} → Machine K S I O → (K → Option S) → I → List K
    → List (K × List O)
told_ticks machine states tick keys =
    map (λ key. (key, adds machine key (states key) tick))
    (filter (λ key. speaks (adds machine key (states key) tick)) keys)

-- the one list that has these groups in the order of their labels, which differ
abbrev pub Sorts : {L O : Type 0} → (L → L → Ordering) → List (L × List O) → List (L × List O)
    → Type 0
Sorts {L} {O} cmp told sorted =
    (all : List (L × List O)) → IsStrictlySortedBy cmp (map (λ group. group.0) all)
    → IsPermutation told all → sorted ≡ all
