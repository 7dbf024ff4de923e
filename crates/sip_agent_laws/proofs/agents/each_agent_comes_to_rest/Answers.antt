-- The law `each_agent_comes_to_rest`: after 64*T1 without events the agent is at rest.
use Rattle.sip_agent_laws.proofs.agents.RestFrom.{each_agent_comes_to_rest}
use Rattle.sip_agent_laws.proofs.agents.each_agent_comes_to_rest.Goals as goal

pub returns : goal.returns
returns c = each_agent_comes_to_rest
