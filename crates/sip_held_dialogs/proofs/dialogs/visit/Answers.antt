-- `visit` leaves the INVITE of a dialog.
use Rattle.std.proofs.Common.{ap, sym}
use Rattle.std.specs.Map.{set_value}
use Rattle.sip_held_dialogs.specs.Dialogs.{is_dialog_id}
use Rattle.sip_held_dialogs.proofs.Counts.{kept_counted, on_ok}
use Rattle.sip_held_dialogs.proofs.dialogs.visit.Goals as goal

pub invariant_of-dialogs-2 : goal.invariant_of-dialogs-2
invariant_of-dialogs-2 c =
    kept_counted c.dialogs.inside.invites c.args.name.now c.in-Some.held.now
    c.visit_dialog.new.held c.dialogs.inside.all.entries (sym c.in-Some.ensures.value)
    c.visit_dialog.ensures.same_invite c.dialogs.invariant

pub returns : goal.returns
returns c =
    rw (← c.dialogs.view_is, ← c.in-Some.ensures.value)
    (on_ok c.visit_dialog.result _ _ c.visit_dialog.ensures.held
    (ap (λ held. set_value (is_dialog_id c.args.name.now) c.dialogs.inside.all.entries held)))
