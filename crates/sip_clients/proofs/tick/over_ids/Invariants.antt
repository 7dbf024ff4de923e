-- The loop of `over_ids`: those that are over among the requests so far.
use Rattle.std.proofs.Common.{◌≡◌, take}
use Rattle.std.specs.Map.{values_of}
use Rattle.sip_clients.specs.Steps.Over.{over_ids}
use Rattle.sip_clients.proofs.tick.over_ids.Given as goal

abbrev pub invariant-loop-client : goal.invariant-loop-client
invariant-loop-client l = l.over.items
    ≡ over_ids l.now (take l.client-index (values_of l.clients.entries))
