-- The items of a phase, cut into the parts of the shards.
use Rattle.std.specs.Prelude.{ℕ, zero, suc, List, [], ◌∷◌, filter}
use Rattle.keyed_machine.specs.declared.item.Item.{Item}
use Rattle.keyed_machine.specs.Shards.{is_owned}

-- the shard of a key, among so many, by the way in which names are cut
abbrev pub owner_of : {K : Type 0} → (List ℕ → ℕ → ℕ) → (K → List ℕ) → ℕ → K → ℕ
owner_of shard_of name shards key = shard_of (name key) shards

-- for each of so many shards, numbered upwards from this number, its items, in their order
abbrev pub cut_by : {K I : Type 0} → (K → ℕ) → ℕ → ℕ → List (Item K I) → List (List (Item K I))
cut_by owner number zero items = []
cut_by owner number (suc count) items =
    filter (λ item. is_owned owner number item.key) items ∷ cut_by owner (suc number) count items
