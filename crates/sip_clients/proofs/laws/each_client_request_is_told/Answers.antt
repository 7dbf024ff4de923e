-- The law `each_client_request_is_told`: after each step a held client request is what its story
-- says.
use Rattle.sip_clients.proofs.CommandStories.{ack_holds, cancel_holds, invite_holds, lost_holds, plain_holds, prack_holds, request_holds, tick_holds}
use Rattle.sip_clients.proofs.ReplyStories.{response_holds}
use Rattle.sip_clients.proofs.Abandons as abandons
use Rattle.sip_clients.proofs.laws.each_client_request_is_told.Goals as goal

pub returns-clause-response : goal.returns-clause-response
returns-clause-response c = response_holds

pub returns-clause-lost : goal.returns-clause-lost
returns-clause-lost c = lost_holds

pub returns-clause-invite : goal.returns-clause-invite
returns-clause-invite c = invite_holds

pub returns-clause-plain : goal.returns-clause-plain
returns-clause-plain c = plain_holds

pub returns-clause-request : goal.returns-clause-request
returns-clause-request c = request_holds

pub returns-clause-ack : goal.returns-clause-ack
returns-clause-ack c = ack_holds

pub returns-clause-prack : goal.returns-clause-prack
returns-clause-prack c = prack_holds

pub returns-clause-cancel : goal.returns-clause-cancel
returns-clause-cancel c = cancel_holds

pub returns-clause-tick : goal.returns-clause-tick
returns-clause-tick c = tick_holds

pub returns-clause-abandon_request : goal.returns-clause-abandon_request
returns-clause-abandon_request c = abandons.request_holds

pub returns-clause-abandon_dialog : goal.returns-clause-abandon_dialog
returns-clause-abandon_dialog c = abandons.dialog_holds
