-- The law `each_request_has_one_outcome`: the application is told once how a request ended.
use Rattle.sip_agent_laws.proofs.agents.OneOutcome.{at_most_one_is_told}
use Rattle.sip_agent_laws.proofs.agents.OutcomeTold.{each_has_one_outcome, outcome_is_told}
use Rattle.sip_agent_laws.proofs.agents.each_request_has_one_outcome.Goals as goal

pub returns-clause-most : goal.returns-clause-most
returns-clause-most c = at_most_one_is_told

pub returns-clause-one : goal.returns-clause-one
returns-clause-one c = each_has_one_outcome

pub returns-clause-told : goal.returns-clause-told
returns-clause-told c = outcome_is_told
