-- Tables that hold the same.
use Rattle.std.specs.Prelude.{◌≡◌, IsSome}
use Rattle.std.specs.declared.cmp.Ordering.{Ordering}
use Rattle.keyed_machine.specs.Table.{Held, state_at}

-- neither table is broken, and each key has the same state in both, or a state in neither
pub record HoldTheSame {K S : Type 0} (cmp : K → K → Ordering) (one other : Held K S) : Type 0 where
  pub sound : IsSome one
  pub other_sound : IsSome other
  pub states : (key : K) → state_at cmp one key ≡ state_at cmp other key
