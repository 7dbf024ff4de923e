-- The law `at_rest_after_all`: 64*T1 after the last message or command a call is at rest.
use Rattle.sip_agent_laws.proofs.calls.AtRest.{at_rest_after_all}
use Rattle.sip_agent_laws.proofs.calls.at_rest_after_all.Goals as goal

pub returns : goal.returns
returns c = at_rest_after_all
