-- The law `a_success_is_acknowledged`: the first 2xx to an INVITE is told, its ACK sent or owed.
use Rattle.sip_agent_laws.proofs.calls.Successes.{first_success_is_acknowledged}
use Rattle.sip_agent_laws.proofs.calls.a_success_is_acknowledged.Goals as goal

pub returns : goal.returns
returns c = first_success_is_acknowledged
