-- The server side of one Call-ID: what is held, and what is told after a change.
use Rattle.std.specs.Prelude.{Bool, List, [], ◌∷◌, ◌++◌, ◌||◌, length, nat_lt, if◌then◌else◌}
use Rattle.sip_message.specs.declared.addr.Addr.{Addr}
use Rattle.sip_message.specs.declared.id.Id.{Id}
use Rattle.sip_user.specs.declared.item.CallOut.{CallOut}
use Rattle.sip_held_dialogs.specs.Dialogs.{Dialogs}
use Rattle.sip_held_dialogs.specs.Ids.{is_id}
use Rattle.sip_served.specs.declared.held_request.HeldRequest.{HeldRequest}

-- the agent's own address, the held requests in the order of their arrival, and the held dialogs
pub record State : Type 0 where
  pub local : Addr
  pub requests : List HeldRequest
  pub dialogs : Dialogs

-- nothing is held, at this address
abbrev pub empty_at : Addr → State
empty_at local = record { local = local; requests = []; dialogs = [] }

-- something is held
abbrev pub holds : State → Bool
holds state = nat_lt 0 (length state.requests) || nat_lt 0 (length state.dialogs)

-- what is held after something happened, and what is told and sent
abbrev pub ServedTaken : Type 0
ServedTaken = State × List CallOut

-- a request that came by this event
abbrev pub has_id : Id → HeldRequest → Bool
has_id id held = is_id held.id id

-- the list after this change of the first element that passes the test
abbrev pub changed_first : {X : Type 0} → (X → Bool) → (X → X) → List X → List X
changed_first test change [] = []
changed_first test change (x ∷ xs) =
    if test x then change x ∷ xs else x ∷ changed_first test change xs

-- the held requests after this change of the one with this id
abbrev pub changed_at : Id → (HeldRequest → HeldRequest) → List HeldRequest → List HeldRequest
changed_at id change requests = changed_first (has_id id) change requests

-- ---- for steps and laws: `run` needs nothing of what follows

-- nothing happens
abbrev pub quiet : State → ServedTaken
quiet state = (state, [])

-- one thing happens, and then another
abbrev pub followed : ServedTaken → (State → ServedTaken) → ServedTaken
followed done more = ((more done.0).0, done.1 ++ (more done.0).1)
