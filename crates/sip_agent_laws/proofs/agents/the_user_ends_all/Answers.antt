-- The law `the_user_ends_all`: one round of commands, and in the end nothing is held.
use Rattle.sip_agent_laws.proofs.agents.UserEnds.{user_ends_agent, user_ends_transactions}
use Rattle.sip_agent_laws.proofs.agents.the_user_ends_all.Goals as goal

pub returns-clause-transactions : goal.returns-clause-transactions
returns-clause-transactions c = user_ends_transactions

pub returns-clause-all : goal.returns-clause-all
returns-clause-all c = user_ends_agent
