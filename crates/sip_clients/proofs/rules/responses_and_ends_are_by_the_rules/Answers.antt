-- The law `responses_and_ends_are_by_the_rules`: for responses, lost requests and ticks the rule
-- says the same as the step.
use Rattle.sip_clients.proofs.RuleEnds.{lost_same, removal_same, tick_same}
use Rattle.sip_clients.proofs.RuleResponses.{response_same}
use Rattle.sip_clients.proofs.rules.responses_and_ends_are_by_the_rules.Goals as goal

pub returns-clause-response : goal.returns-clause-response
returns-clause-response c = response_same

pub returns-clause-lost : goal.returns-clause-lost
returns-clause-lost c = lost_same

pub returns-clause-tick : goal.returns-clause-tick
returns-clause-tick c = tick_same

pub returns-clause-removal : goal.returns-clause-removal
returns-clause-removal c = removal_same
