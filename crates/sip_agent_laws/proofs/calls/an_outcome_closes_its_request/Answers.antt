-- The law `an_outcome_closes_its_request`: the outcome of a request is told and ends it.
use Rattle.sip_agent_laws.proofs.calls.Outcomes.{outcome_closes}
use Rattle.sip_agent_laws.proofs.calls.an_outcome_closes_its_request.Goals as goal

pub returns : goal.returns
returns c = outcome_closes
