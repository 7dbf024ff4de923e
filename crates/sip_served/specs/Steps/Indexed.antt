-- Held requests by number, and their indices.
use Rattle.std.specs.Prelude.{◌≡◌, ℕ, ◌≤◌, Bool, cond, List, [], Option, None, Some}
use Rattle.std.specs.BTreeMap.{BTreeMap, IsOrdered, get, is_at}
use Rattle.std.specs.Map.{remove_entry, set_value}
use Rattle.std.specs.Option.{option_and_then, option_map_or}
use Rattle.std.specs.Ordering.{nat_cmp}
use Rattle.sip_timers.specs.Index as timers
use Rattle.sip_user.specs.declared.item.CallOut.{CallOut}
use Rattle.sip_served.specs.declared.by_number.ByNumber.{ByNumber}
use Rattle.sip_served.specs.declared.held_request.HeldRequest.{HeldRequest}
use Rattle.sip_served.specs.declared.indexed_requests.IndexedRequests.TheInside.{Inside}
use Rattle.sip_served.specs.Steps.Indices.{IsIndices}
use Rattle.sip_served.specs.Tick.{is_kept_at, request_due, request_ticked}

-- the request of a number
abbrev pub at : BTreeMap ℕ HeldRequest → ℕ → Option HeldRequest
at requests number = get nat_cmp requests number

-- the moment at which something of the request of a number is due
abbrev pub due_at : BTreeMap ℕ HeldRequest → ℕ → Option ℕ
due_at requests number = option_and_then request_due (at requests number)

-- the indices are those of the requests
pub record IsByNumber (all : ByNumber) : Type 0 where
  pub in_order : IsOrdered nat_cmp all.requests
  pub indices : IsIndices (at all.requests) all.indices
  pub dues : timers.IsIndexOf nat_cmp (due_at all.requests) all.dues

-- no number of a request is as high as the next
abbrev pub IsBelow : ℕ → ByNumber → Type 0
IsBelow next all = (number : ℕ) → next ≤ number → at all.requests number ≡ None

pub record IsIndexed (inside : Inside) : Type 0 where
  pub below : IsBelow inside.next inside.all
  pub numbered : IsByNumber inside.all

-- things by number after a tick of the one of this number, if there is one: it stays, or it is removed
abbrev pub thing_ticked : {X : Type 0} → (X → X) → (X → Bool) → ℕ → List (ℕ × X) → Option X
    → List (ℕ × X)
thing_ticked ticked kept number entries None = entries
thing_ticked ticked kept number entries (Some thing) =
    cond (kept (ticked thing)) (set_value (is_at (nat_cmp number)) entries (ticked thing))
    (remove_entry (is_at (nat_cmp number)) entries)

-- the requests by number after a tick of the one of this number
abbrev pub number_ticked : ℕ → ℕ → BTreeMap ℕ HeldRequest → List (ℕ × HeldRequest)
number_ticked now number requests =
    thing_ticked (λ held. (request_ticked now held).0) (is_kept_at now) number requests.entries
    (at requests number)

-- what is told of it
abbrev pub number_told : ℕ → ℕ → BTreeMap ℕ HeldRequest → List CallOut
number_told now number requests =
    option_map_or (λ held. (request_ticked now held).1) (at requests number) []

-- a request after a tick, if it is kept
abbrev pub kept_ticked : ℕ → HeldRequest → Option HeldRequest
kept_ticked now held =
    cond (is_kept_at now (request_ticked now held).0) (Some (request_ticked now held).0) None
