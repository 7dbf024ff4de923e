-- One step of cutting items among the shards.
use Rattle.std.specs.Prelude.{ℕ, List, [], ◌∷◌, ◌++◌, get_or, slice_set}
use Rattle.keyed_machine.specs.declared.item.Item.{Item}

-- an item is put at the end of its owner's part
abbrev pub with_item : {K I : Type 0} → (K → ℕ) → Item K I → List (List (Item K I))
    → List (List (Item K I))
with_item owner item parts =
    slice_set parts (owner item.key) (get_or parts (owner item.key) [] ++ item ∷ [])
