-- `pay_at`: only the held dialog of the name changes, by the ACK or PRACK that is sent in it.
use Rattle.std.proofs.Common.{ap, sym}
use Rattle.std.specs.Map.{set_value}
use Rattle.sip_held_dialogs.specs.Dialogs.{is_dialog_id}
use Rattle.sip_held_dialogs.proofs.Counts.{kept_counted}
use Rattle.sip_clients.proofs.Results.{on_ok}
use Rattle.sip_clients.proofs.dialogs.pay_at.Goals as goal

pub invariant_of-dialogs-2 : goal.invariant_of-dialogs-2
invariant_of-dialogs-2 c =
    kept_counted c.dialogs.inside.invites c.args.name.now c.in-Some.held.now
    c.send_pending.new.held c.dialogs.inside.all.entries (sym c.in-Some.ensures.value)
    c.send_pending.ensures.same_invite c.dialogs.invariant

pub returns-clause-outcome : goal.returns-clause-outcome
returns-clause-outcome c =
    rw (← c.dialogs.view_is, ← c.in-Some.ensures.value) c.send_pending.ensures.outcome

pub returns-clause-dialogs : goal.returns-clause-dialogs
returns-clause-dialogs c =
    rw (← c.dialogs.view_is, ← c.in-Some.ensures.value)
    (on_ok c.send_pending.result _ _ c.send_pending.ensures.held
    (ap (λ held. set_value (is_dialog_id c.args.name.now) c.dialogs.inside.all.entries held)))
