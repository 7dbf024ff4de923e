-- The stories of the requests that a call holds, for all its inputs: how each came up, and what
-- happened to it since (RFC 3261, section 13.3.1.4; RFC 3262, section 3).
use Rattle.std.specs.Prelude.{◌≡◌, ℕ, List, [], ◌∷◌, map, Option, None, Some}
use Rattle.std.specs.List.{AllByRecursion}
use Rattle.keyed_machine.specs.Machine.{Timed}
use Rattle.sip_reliable.specs.Ledger.{FewWait}
use Rattle.sip_served.specs.Run.{Event as ServedEvent, Takes, Ticks}
use Rattle.sip_served.specs.State.{State, empty_at}
use Rattle.sip_served.specs.Story.{ledger_of, request_of}
use Rattle.sip_served.specs.Telling.{Stories, event_told}
use Rattle.sip_calls.specs.declared.call.Call.{Call}
use Rattle.sip_calls.specs.declared.calls.Calls.{Calls}
use Rattle.sip_calls.specs.Call.{CallItem, call_step, event_of, made_tag}
use Rattle.sip_calls.specs.HeldRequests.{requests_held}
use Rattle.sip_calls.specs.Histories.{call_from}

-- ---- one input

-- what an input is to the server side
abbrev pub served_event : Calls → Option CallItem → ℕ → ServedEvent
served_event calls None now = Ticks now
served_event calls (Some (id, item)) now =
    Takes (made_tag (event_of calls id now)) id item now

-- the server side of a call
abbrev pub served_state : Calls → Option Call → State
served_state calls None = empty_at calls.local
served_state calls (Some call) = call.served

-- ---- a list of inputs

-- the stories after a list of inputs, from what was held and its stories
abbrev pub stories_from : Calls → Option Call → Stories → List (Timed CallItem) → Stories
stories_from calls call stories [] = stories
stories_from calls call stories (input ∷ inputs) =
    stories_from calls (call_step calls call input.input input.moment).0
    (event_told (served_state calls call) (served_event calls input.input input.moment) stories)
    inputs

-- the same for all inputs of a call, if nothing was held before
abbrev pub stories_of : Calls → List (Timed CallItem) → Stories
stories_of calls inputs = stories_from calls None [] inputs

-- ---- the laws

-- Whatever comes to a call: each request that is held is what its story says.
abbrev pub HoldsItsStories : Type 0
HoldsItsStories = (calls : Calls) (inputs : List (Timed CallItem))
    → requests_held (call_from calls None inputs) ≡ map request_of (stories_of calls inputs)

-- in each story at most 8 reliable provisional responses have no PRACK; until the first has one, it
-- is the only one
abbrev pub FewUnacknowledged : Type 0
FewUnacknowledged = (calls : Calls) (inputs : List (Timed CallItem))
    → AllByRecursion (λ story. FewWait (ledger_of story)) (stories_of calls inputs)
