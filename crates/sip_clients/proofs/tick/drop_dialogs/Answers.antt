-- `drop_dialogs` keeps all dialogs but those that are still early when their INVITE is removed.
use Rattle.sip_clients.proofs.OverEnds.{same_left}
use Rattle.sip_clients.proofs.tick.drop_dialogs.Goals as goal

pub returns : goal.returns
returns c =
    rw (c.drop_early_of.ensures, c.as_slice.ensures.value, c.in_ok-over.ensures)
    (same_left c.args.now c.args.clients.now.entries c.args.dialogs.now.entries)
