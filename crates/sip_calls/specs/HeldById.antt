-- The order in which the requests of a call are held, for all its inputs.
use Rattle.std.specs.Prelude.{List, None, filter_map, map}
use Rattle.keyed_machine.specs.Machine.{Timed}
use Rattle.sip_transactions.specs.Ids.{IdsRise}
use Rattle.sip_calls.specs.declared.calls.Calls.{Calls}
use Rattle.sip_calls.specs.Call.{CallItem}
use Rattle.sip_calls.specs.HeldRequests.{request_brought, requests_held}
use Rattle.sip_calls.specs.Histories.{call_from}

-- the ids of the requests that come up rise
abbrev pub RequestsRise : List (Timed CallItem) → Type 0
RequestsRise inputs = IdsRise (filter_map (λ timed. request_brought timed.input) inputs)

-- Whatever comes to a call: the held requests are in the order of their ids.
abbrev pub HeldById : Type 0
HeldById = (calls : Calls) (inputs : List (Timed CallItem)) → RequestsRise inputs
    → IdsRise (map (λ held. held.id) (requests_held (call_from calls None inputs)))
