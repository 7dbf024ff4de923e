-- `is_any_over`: a request is over if the first moment has come.
use Rattle.std.proofs.Common.{ap, ◌∙◌}
use Rattle.sip_timers.specs.Queue.{is_due}
use Rattle.sip_clients.proofs.QuietBeforeDue.{any_over}
use Rattle.sip_clients.proofs.client_map.ClientMap.is_any_over.Goals as goal

pub returns : goal.returns
returns c =
    rw (← c.self.view_is)
    (c.is_due.ensures ∙ ap (is_due c.args.now) c.self.invariant
    ∙ any_over c.args.now c.self.inside.all.entries)
