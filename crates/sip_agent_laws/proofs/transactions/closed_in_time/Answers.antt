-- The law `closed_in_time`.
use Rattle.sip_transactions.proofs.Rules.{at_steps}
use Rattle.sip_agent_laws.specs.Transactions.Closing.{ClosedInTime}
use Rattle.sip_agent_laws.proofs.transactions.Closed as closed
use Rattle.sip_agent_laws.proofs.transactions.closed_in_time.Goals as goal

pub returns : goal.returns
returns c = at_steps ClosedInTime closed.closed_in_time
