-- The law `each_notice_is_of_its_call`: after each step what is held and told has the Call-ID of
-- the call.
use Rattle.sip_clients.proofs.OwnCommands.{ack_own, cancel_own, dialog_request_own, invite_own, plain_own, prack_own}
use Rattle.sip_clients.proofs.OwnReplies.{lost_own, response_own, tick_own}
use Rattle.sip_clients.proofs.Abandons as abandons
use Rattle.sip_clients.proofs.laws.each_notice_is_of_its_call.Goals as goal

pub returns-clause-response : goal.returns-clause-response
returns-clause-response c = response_own

pub returns-clause-lost : goal.returns-clause-lost
returns-clause-lost c = lost_own

pub returns-clause-invite : goal.returns-clause-invite
returns-clause-invite c = invite_own

pub returns-clause-plain : goal.returns-clause-plain
returns-clause-plain c = plain_own

pub returns-clause-request : goal.returns-clause-request
returns-clause-request c = dialog_request_own

pub returns-clause-ack : goal.returns-clause-ack
returns-clause-ack c = ack_own

pub returns-clause-prack : goal.returns-clause-prack
returns-clause-prack c = prack_own

pub returns-clause-cancel : goal.returns-clause-cancel
returns-clause-cancel c = cancel_own

pub returns-clause-tick : goal.returns-clause-tick
returns-clause-tick c = tick_own

pub returns-clause-abandon_request : goal.returns-clause-abandon_request
returns-clause-abandon_request c = abandons.request_own

pub returns-clause-abandon_dialog : goal.returns-clause-abandon_dialog
returns-clause-abandon_dialog c = abandons.dialog_own
