-- The law `each_open_transaction_is_held`: a call holds the request of each open transaction.
use Rattle.sip_agent_laws.proofs.agents.OpenHeld.{each_open_is_held}
use Rattle.sip_agent_laws.proofs.agents.each_open_transaction_is_held.Goals as goal

pub returns : goal.returns
returns c = each_open_is_held
