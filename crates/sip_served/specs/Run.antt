-- The server side of a call after all that happened to it.
use Rattle.std.specs.Prelude.{ℕ, List, fold}
use Rattle.std.specs.List.{AllByRecursion}
use Rattle.sip_message.specs.declared.addr.Addr.{Addr}
use Rattle.sip_message.specs.declared.id.Id.{Id}
use Rattle.sip_reliable.specs.Ledger.{FewWait}
use Rattle.sip_user.specs.declared.item.Item.{Item}
use Rattle.sip_served.specs.State.{State, ServedTaken, empty_at}
use Rattle.sip_served.specs.Step.{server_item_taken}
use Rattle.sip_served.specs.Tick.{tick_taken}

-- an item with the tag that was made for it, the id of its event and its moment, or a tick
pub data Event : Type 0 where
  Takes : List ℕ → Id → Item → ℕ → Event
  Ticks : ℕ → Event

abbrev pub event_taken : State → Event → ServedTaken
event_taken state (Takes tag id item now) = server_item_taken state tag id item now
event_taken state (Ticks now) = tick_taken state now

-- what is held after these events, if nothing was held before
abbrev pub server_state_after : Addr → List Event → State
server_state_after local events =
    fold (λ state event. (event_taken state event).0) (empty_at local) events

-- for each held request at most 8 reliable provisional responses wait for their PRACK, and until
-- the first was acknowledged, only that one
abbrev pub FewWaitEach : State → Type 0
FewWaitEach state = AllByRecursion (λ held. FewWait held.ledger) state.requests
