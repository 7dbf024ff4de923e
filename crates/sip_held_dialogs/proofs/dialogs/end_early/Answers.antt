-- `end_early`: nothing ends of an INVITE that made no dialog.
use Rattle.std.proofs.Common.{ap, subst, ◌∙◌}
use Rattle.sip_held_dialogs.specs.Counted.{IsMadeBy}
use Rattle.sip_held_dialogs.proofs.Counts.{nothing_ends}
use Rattle.sip_held_dialogs.proofs.dialogs.end_early.Goals as goal

pub returns-in-Nothing : goal.returns-in-Nothing
returns-in-Nothing c =
    let dialogs = c.args.dialogs.now.entries in
    ap (λ outs. (dialogs, outs)) c.new.ensures.items
    ∙ nothing_ends c.args.invite dialogs
    (subst (IsMadeBy c.args.invite dialogs) c.in-Nothing.is c.in_ok-made_by.ensures)
