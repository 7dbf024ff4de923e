-- The law `each_client_request_holds_its_history`: a held client request is what its story says;
-- its CANCEL and its ACKs.
use Rattle.sip_agent_laws.proofs.histories.ClientRequests.{cancels_go_once, cancels_wait_as_asked, repeated_acks_are_the_same, requests_have_their_stories}
use Rattle.sip_agent_laws.proofs.histories.each_client_request_holds_its_history.Goals as goal

pub returns-clause-history : goal.returns-clause-history
returns-clause-history c = requests_have_their_stories

pub returns-clause-cancel : goal.returns-clause-cancel
returns-clause-cancel c = cancels_go_once

pub returns-clause-waits : goal.returns-clause-waits
returns-clause-waits c = cancels_wait_as_asked

pub returns-clause-ack : goal.returns-clause-ack
returns-clause-ack c = repeated_acks_are_the_same
