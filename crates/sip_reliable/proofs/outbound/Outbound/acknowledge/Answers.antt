-- `Outbound::acknowledge`: the ledger stands for all that happened and this PRACK.
use Rattle.sip_reliable.proofs.Ledgers.{acknowledge_stands}
use Rattle.sip_reliable.proofs.outbound.Outbound.acknowledge.Goals as goal

pub returns-clause-stands : goal.returns-clause-stands
returns-clause-stands c = acknowledge_stands c.args.self.now c.acknowledge_step.new.self
    c.acknowledge_step.result c.args.rseq c.acknowledge_step.ensures.ok
