-- The law `nothing_left_due`.
use Rattle.sip_transactions.proofs.Rules.{at_steps}
use Rattle.sip_agent_laws.specs.Transactions.Timers.{NothingLeftDue}
use Rattle.sip_agent_laws.proofs.transactions.Ticks as ticks
use Rattle.sip_agent_laws.proofs.transactions.nothing_left_due.Goals as goal

pub returns : goal.returns
returns c = at_steps NothingLeftDue ticks.nothing_left_due
