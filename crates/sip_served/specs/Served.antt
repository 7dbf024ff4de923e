-- What a contract sees of `Served`.
use Rattle.std.specs.Prelude.{Bool, true, List}
use Rattle.sip_user.specs.declared.item.CallOut.{CallOut}
use Rattle.sip_served.specs.State.{State, ServedTaken, empty_at}

-- whether memory ran out in an earlier call, and what is held
pub record ServedState : Type 0 where
  pub broken : Bool
  pub state : State

-- after memory ran out nothing is held, at the same address
abbrev pub lost : ServedState → ServedState
lost served = record { broken = true; state = empty_at (served.state).local }

-- the server side holds the result
abbrev pub after : ServedState → ServedTaken → ServedState × List CallOut
after served taken = (record served { state = taken.0 }, taken.1)
