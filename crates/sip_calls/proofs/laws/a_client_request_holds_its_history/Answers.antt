-- The law `a_client_request_holds_its_history`: a held client request is what its story says; its
-- CANCEL and its ACKs.
use Rattle.sip_calls.proofs.ClientHistories.{cancels_once, holds_client_stories, repeats_its_ack, waits_as_asked}
use Rattle.sip_calls.proofs.laws.a_client_request_holds_its_history.Goals as goal

pub returns-clause-history : goal.returns-clause-history
returns-clause-history c = holds_client_stories

pub returns-clause-cancel : goal.returns-clause-cancel
returns-clause-cancel c = cancels_once

pub returns-clause-ack : goal.returns-clause-ack
returns-clause-ack c = repeats_its_ack

pub returns-clause-waits : goal.returns-clause-waits
returns-clause-waits c = waits_as_asked
