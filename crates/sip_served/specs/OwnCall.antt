-- What of the server side of a call belongs to one Call-ID (RFC 3261, section 8.1.1.4).
use Rattle.std.specs.Prelude.{◌≡◌, ℕ, List}
use Rattle.std.specs.List.{AllByRecursion}
use Rattle.sip_user.specs.OwnCall.{IsItemOf}
use Rattle.sip_held_dialogs.specs.OwnDialogs.{AreDialogsOf}
use Rattle.sip_served.specs.declared.held_request.HeldRequest.{HeldRequest}
use Rattle.sip_served.specs.Run.{Event, Takes, Ticks}
use Rattle.sip_served.specs.State.{State}

abbrev pub AreRequestsOf : List ℕ → List HeldRequest → Type 0
AreRequestsOf call_id requests = AllByRecursion (λ held. held.request.call_id ≡ call_id) requests

-- each held request and each held dialog has this Call-ID
pub record IsStateOf (call_id : List ℕ) (state : State) : Type 0 where
  pub requests : AreRequestsOf call_id state.requests
  pub dialogs : AreDialogsOf call_id state.dialogs

-- an item of this Call-ID, or a tick
abbrev pub IsEventOf : List ℕ → Event → Type 0
IsEventOf call_id (Takes tag id item now) = IsItemOf call_id item
IsEventOf call_id (Ticks now) = Unit {0}
