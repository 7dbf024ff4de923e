-- Tables of shards, each with keys that it owns and no other.
use Rattle.std.specs.Prelude.{◌≡◌, ◌<◌, ℕ, false, List, Option, None, IsSome, length, get_or}
use Rattle.std.specs.declared.cmp.Ordering.{Ordering}
use Rattle.keyed_machine.specs.Shards.{is_owned}
use Rattle.keyed_machine.specs.Table.{Held, state_at}

module _ {K S : Type 0} (cmp : K → K → Ordering) (owner : K → ℕ) where
  -- the state that its owner's table holds for a key
  abbrev pub held_by_owner : List (Held K S) → K → Option S
  held_by_owner tables key = state_at cmp (get_or tables (owner key) None) key

  -- none of the tables is broken, and none holds a key that it doesn't own
  pub record AreOwners (tables : List (Held K S)) : Type 0 where
    pub sound : (k : ℕ) → k < length tables → IsSome (get_or tables k None)
    pub alone : (k : ℕ) (key : K) → k < length tables → is_owned owner k key ≡ false
        → state_at cmp (get_or tables k None) key ≡ None
