-- The law `repeated_in_time`.
use Rattle.sip_transactions.proofs.Rules.{at_steps}
use Rattle.sip_agent_laws.specs.Transactions.Timers.{RepeatedInTime}
use Rattle.sip_agent_laws.proofs.transactions.Repeated as repeated
use Rattle.sip_agent_laws.proofs.transactions.repeated_in_time.Goals as goal

pub returns : goal.returns
returns c = at_steps RepeatedInTime repeated.repeated_in_time
