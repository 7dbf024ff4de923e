-- The law `each_request_ends`.
use Rattle.sip_transactions.proofs.Rules.{at_steps}
use Rattle.sip_agent_laws.specs.Transactions.Outcomes.{AtMostOneOutcome, EachRequestEnds}
use Rattle.sip_agent_laws.proofs.transactions.Ends as ends
use Rattle.sip_agent_laws.proofs.transactions.each_request_ends.Goals as goal

pub returns-clause-most : goal.returns-clause-most
returns-clause-most c = at_steps AtMostOneOutcome ends.at_most_one_outcome

pub returns-clause-ends : goal.returns-clause-ends
returns-clause-ends c = at_steps EachRequestEnds ends.each_request_ends
