-- The law `rejections_are_accepted`: a rejection of a request without a final response goes out.
use Rattle.sip_agent_laws.proofs.calls.Rejected.{rejections_are_accepted}
use Rattle.sip_agent_laws.proofs.calls.rejections_are_accepted.Goals as goal

pub returns : goal.returns
returns c = rejections_are_accepted
