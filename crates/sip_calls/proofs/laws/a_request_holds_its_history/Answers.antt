-- The law `a_request_holds_its_history`: a held request of the peer is what its story says, and few
-- responses to it wait.
use Rattle.sip_calls.proofs.RequestHistories.{few_unacknowledged, holds_its_stories}
use Rattle.sip_calls.proofs.laws.a_request_holds_its_history.Goals as goal

pub returns-clause-history : goal.returns-clause-history
returns-clause-history c = holds_its_stories

pub returns-clause-few : goal.returns-clause-few
returns-clause-few c = few_unacknowledged
