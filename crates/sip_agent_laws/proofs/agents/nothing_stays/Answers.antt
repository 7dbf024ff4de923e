-- The law `nothing_stays`: if nothing waits, nothing is held in the end.
use Rattle.sip_agent_laws.proofs.agents.NothingLeft.{no_transaction_stays, nothing_stays}
use Rattle.sip_agent_laws.proofs.agents.nothing_stays.Goals as goal

pub returns-clause-transactions : goal.returns-clause-transactions
returns-clause-transactions c = no_transaction_stays

pub returns-clause-all : goal.returns-clause-all
returns-clause-all c = nothing_stays
