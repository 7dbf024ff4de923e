-- The law `told_in_time`: a tick tells that no ACK or no PRACK came, and no other input does.
use Rattle.sip_agent_laws.proofs.calls.InTime.{no_ack_told, no_prack_told}
use Rattle.sip_agent_laws.proofs.calls.OnlyTicks.{only_ticks_tell}
use Rattle.sip_agent_laws.proofs.calls.told_in_time.Goals as goal

pub returns-clause-ack : goal.returns-clause-ack
returns-clause-ack c = no_ack_told

pub returns-clause-prack : goal.returns-clause-prack
returns-clause-prack c = no_prack_told

pub returns-clause-ticks : goal.returns-clause-ticks
returns-clause-ticks c = only_ticks_tell
