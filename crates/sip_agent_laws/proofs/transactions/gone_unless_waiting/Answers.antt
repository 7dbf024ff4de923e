-- The law `gone_unless_waiting`.
use Rattle.sip_transactions.proofs.Rules.{at_steps}
use Rattle.sip_agent_laws.specs.Transactions.Timers.{GoneUnlessWaiting}
use Rattle.sip_agent_laws.proofs.transactions.Ticks as gone
use Rattle.sip_agent_laws.proofs.transactions.gone_unless_waiting.Goals as goal

pub returns : goal.returns
returns c = at_steps GoneUnlessWaiting gone.gone_unless_waiting
