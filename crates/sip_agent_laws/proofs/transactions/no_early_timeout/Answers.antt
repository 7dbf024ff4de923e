-- The law `no_early_timeout`.
use Rattle.sip_transactions.proofs.Rules.{at_steps}
use Rattle.sip_agent_laws.specs.Transactions.Outcomes.{NoEarlyTimeout}
use Rattle.sip_agent_laws.proofs.transactions.Closed as closed
use Rattle.sip_agent_laws.proofs.transactions.no_early_timeout.Goals as goal

pub returns : goal.returns
returns c = at_steps NoEarlyTimeout closed.no_early_timeout
