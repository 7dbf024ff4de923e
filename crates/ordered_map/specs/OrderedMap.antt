-- What a contract sees of a map in the order of insertion.
use Rattle.std.specs.Prelude.{List}
use Rattle.ordered_map.specs.declared.ordered_map.Held.{Held}
use Rattle.ordered_map.specs.declared.ordered_map.Held.TheVariants.{Few, Many}

-- the entries in the order in which their keys were inserted
pub record Ordered (K V : Type 0) : Type 0 where
  pub entries : List (K × V)

abbrev pub entries_of : {K V S H : Type 0} → Held K V S H → List (K × V)
entries_of (Few map) = map.entries
entries_of (Many map) = map.entries
