-- The law `told_or_answered`: each request that comes up is told or answered.
use Rattle.sip_agent_laws.proofs.calls.Acks.{ack_is_told}
use Rattle.sip_agent_laws.proofs.calls.Arrived.{own_answered, told_or_answered}
use Rattle.sip_agent_laws.proofs.calls.told_or_answered.Goals as goal

pub returns-clause-either : goal.returns-clause-either
returns-clause-either c = told_or_answered

pub returns-clause-own : goal.returns-clause-own
returns-clause-own c = own_answered

pub returns-clause-ack : goal.returns-clause-ack
returns-clause-ack c = ack_is_told
