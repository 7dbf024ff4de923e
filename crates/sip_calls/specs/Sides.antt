-- The two sides of a call, over the same dialogs.
use Rattle.std.specs.Prelude.{ℕ, Bool, ◌||◌, not, ◌==◌, List, ◌++◌, Option, length}
use Rattle.sip_timers.specs.Earlier.{earlier}
use Rattle.sip_served.specs.State.{ServedTaken, holds}
use Rattle.sip_served.specs.Tick as served
use Rattle.sip_user.specs.declared.item.CallOut.{CallOut}
use Rattle.sip_clients.specs.Client.{Side, ClientTaken}
use Rattle.sip_clients.specs.Tick as clients
use Rattle.sip_calls.specs.declared.call.Call.{Call}

-- a call after something happened to it, and what it gives
abbrev pub CallTaken : Type 0
CallTaken = Call × List CallOut

-- the call after a change of its server side
abbrev pub by_server : Call → ServedTaken → CallTaken
by_server call taken = (record call { served = taken.0 }, taken.1)

-- what the client side sees: the dialogs and the client requests
abbrev pub side_of : Call → Side
side_of call = record { dialogs = (call.served).dialogs; clients = call.clients }

-- the call after a change of its client side
abbrev pub by_clients : Call → ClientTaken → CallTaken
by_clients call taken = (
  record call {
    served = record call.served { dialogs = (taken.0).dialogs };
    clients = (taken.0).clients;
  },
  taken.1,
)

-- something is held
abbrev pub holds_any : Call → Bool
holds_any call = holds call.served || not (length call.clients == 0)
