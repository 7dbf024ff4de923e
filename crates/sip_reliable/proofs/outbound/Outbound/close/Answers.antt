-- `Outbound::close`: the ledger stands for all that happened and the final response.
use Rattle.std.proofs.Common.{ap}
use Rattle.sip_reliable.specs.Ledger.{closed_now}
use Rattle.sip_reliable.proofs.Ledgers.{close_stands}
use Rattle.sip_reliable.proofs.outbound.Outbound.close.Goals as goal

pub returns-clause-stands : goal.returns-clause-stands
returns-clause-stands c = close_stands c.args.self.now _ (ap closed_now c.self.view_is)
