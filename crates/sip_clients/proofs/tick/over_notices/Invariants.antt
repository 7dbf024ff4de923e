-- The loop of `over_notices`: the ends of the early dialogs of the INVITEs so far are told.
use Rattle.std.proofs.Common.{◌≡◌, take}
use Rattle.std.specs.List.{flat_map}
use Rattle.std.specs.Map.{values_of}
use Rattle.sip_clients.specs.Tick.{early_ends_told}
use Rattle.sip_clients.proofs.tick.over_notices.Given as goal

abbrev pub invariant-loop-client : goal.invariant-loop-client
invariant-loop-client l = l.outs.items
    ≡ flat_map (early_ends_told l.now l.dialogs.entries)
    (take l.client-index (values_of l.clients.entries))
