-- `Outbound::next_due` gives the earliest moment at which a tick isn't nothing.
use Rattle.sip_reliable.proofs.Dues.{next_is_earliest}
use Rattle.sip_reliable.proofs.outbound.Outbound.next_due.Goals as goal

pub returns-clause-earliest : goal.returns-clause-earliest
returns-clause-earliest c = rw c.next_moment.ensures (next_is_earliest c.args.self.now)
