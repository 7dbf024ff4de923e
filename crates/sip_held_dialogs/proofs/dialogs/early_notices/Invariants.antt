-- The loop of `early_notices`: the ends of the early dialogs among those seen so far are told.
use Rattle.std.proofs.Common.{◌≡◌, map, filter, take}
use Rattle.std.specs.Map.{values_of}
use Rattle.sip_held_dialogs.specs.Dialogs.{ended_notice, is_early_of}
use Rattle.sip_held_dialogs.proofs.dialogs.early_notices.Given as goal

abbrev pub invariant-loop-held : goal.invariant-loop-held
invariant-loop-held l =
    l.outs.items ≡ map ended_notice (filter (is_early_of l.invite)
    (take l.held-index (values_of l.dialogs.entries)))
