-- `confirm` leaves the INVITE of a dialog.
use Rattle.std.proofs.Common.{sym}
use Rattle.sip_held_dialogs.proofs.Counts.{kept_counted}
use Rattle.sip_held_dialogs.proofs.dialogs.confirm.Goals as goal

pub invariant_of-dialogs-2 : goal.invariant_of-dialogs-2
invariant_of-dialogs-2 c =
    kept_counted c.dialogs.inside.invites c.args.name.now c.in-Some.held.now
    c.confirm_dialog.new.held c.dialogs.inside.all.entries (sym c.in-Some.ensures.value)
    c.confirm_dialog.ensures.same_invite c.dialogs.invariant
