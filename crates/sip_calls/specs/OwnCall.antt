-- What is held of a call, and what the user is told of it, has its own Call-ID (RFC 3261, section
-- 8.1.1.4).
use Rattle.std.specs.Prelude.{ℕ, List, Option, None, Some}
use Rattle.std.specs.List.{AllByRecursion}
pub use Rattle.sip_user.specs.OwnCall.{IsItemOf, IsNoticeOf, call_of_notice}
pub use Rattle.sip_served.specs.OwnCall.{IsStateOf}
pub use Rattle.sip_clients.specs.OwnCall.{AreClientsOf}
use Rattle.sip_calls.specs.declared.call.Call.{Call}
use Rattle.sip_calls.specs.declared.calls.Calls.{Calls}
use Rattle.sip_calls.specs.Call.{CallItem, call_step}

-- both sides of a call have this Call-ID
pub record AreSidesOf (call_id : List ℕ) (call : Call) : Type 0 where
  pub state : IsStateOf call_id call.served
  pub clients : AreClientsOf call_id call.clients

-- what is held of a call, if anything, has this Call-ID
abbrev pub IsCallOf : List ℕ → Option Call → Type 0
IsCallOf call_id None = Unit {0}
IsCallOf call_id (Some call) = AreSidesOf call_id call

-- an item of this Call-ID, or a tick
abbrev pub IsInputOf : List ℕ → Option CallItem → Type 0
IsInputOf call_id None = Unit {0}
IsInputOf call_id (Some (id, item)) = IsItemOf call_id item

-- If what is held of a call and what happens to it have a Call-ID, so do what is held afterwards
-- and each notice.
abbrev pub EachNoticeIsOwn : Type 0
EachNoticeIsOwn = (calls : Calls) (call_id : List ℕ) (state : Option Call) (input : Option CallItem)
    (now : ℕ) → IsCallOf call_id state → IsInputOf call_id input
    → IsCallOf call_id (call_step calls state input now).0
    × AllByRecursion (IsNoticeOf call_id) (call_step calls state input now).1
