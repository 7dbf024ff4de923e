-- The law `started_requests_given`: a client transaction's life begins with a request that goes
-- out.
use Rattle.sip_round.proofs.StartedRequests.{started_requests}
use Rattle.sip_round.proofs.laws.started_requests_given.Goals as goal

pub returns : goal.returns
returns c =
    started_requests c.laws_of_phases.ensures.each_key_alone c.own_sends_given.ensures
