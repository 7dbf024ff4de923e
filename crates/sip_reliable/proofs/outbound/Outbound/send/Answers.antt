-- `Outbound::send`: the ledger stands for all that happened and the response sent.
use Rattle.sip_reliable.proofs.Ledgers.{send_stands}
use Rattle.sip_reliable.proofs.outbound.Outbound.send.Goals as goal

pub returns-clause-stands : goal.returns-clause-stands
returns-clause-stands c = send_stands c.args.self.now c.send_step.new.self c.send_step.result
    c.args.has_body c.args.now c.send_step.ensures.next c.send_step.ensures.ok
