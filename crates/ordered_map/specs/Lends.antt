-- What a map ends as, once a `&mut` to one of its values has ended.
use Rattle.std.specs.Prelude.{Bool, Option}
use Rattle.std.specs.Borrow.{Fml, RattleType, MutBor, LendsIf}
use Rattle.std.specs.HashMap.Lent.{HashMembers}
use Rattle.std.specs.Map.{set_value}
use Rattle.std.specs.declared.hash.Hasher as hasher
use Rattle.std.specs.declared.hash.BuildHasher as builder
use Rattle.ordered_map.specs.OrderedMap.{Ordered}
use Rattle.ordered_map.specs.contracts.ordered_map.OrderedMap.{the_row}

module _ (K V S H : RattleType) (key : HashMembers K.Denot) (build : builder.Ghosts S.Denot H.Denot) (hash : hasher.Ghosts H.Denot) where
  -- the map's type, as the logic has it
  abbrev pub map_row : RattleType
  map_row =
      the_row K V S H (record {}) (record { eq = key.eq }) (record { hash_input = key.hash_input }) build hash

  -- the key that passes has the last value written through r; at `None` the map stays as it is
  abbrev pub lends_value : MutBor (Ordered K.Denot V.Denot) → (K.Denot → Bool)
      → Option (MutBor V.Denot) → Fml
  lends_value m test r =
      LendsIf map_row V m r (λ w. record { entries = set_value test m.now.entries w }) m.now
