-- The law `a_cancel_waits_for_a_provisional`: a CANCEL waits only while no provisional response
-- came.
use Rattle.sip_clients.proofs.Waiting.{ack_waits, cancel_waits, invite_waits, lost_waits, plain_waits, prack_waits, request_waits, response_waits, tick_waits}
use Rattle.sip_clients.proofs.Abandons as abandons
use Rattle.sip_clients.proofs.laws.a_cancel_waits_for_a_provisional.Goals as goal

pub returns-clause-response : goal.returns-clause-response
returns-clause-response c = response_waits

pub returns-clause-lost : goal.returns-clause-lost
returns-clause-lost c = lost_waits

pub returns-clause-invite : goal.returns-clause-invite
returns-clause-invite c = invite_waits

pub returns-clause-plain : goal.returns-clause-plain
returns-clause-plain c = plain_waits

pub returns-clause-request : goal.returns-clause-request
returns-clause-request c = request_waits

pub returns-clause-ack : goal.returns-clause-ack
returns-clause-ack c = ack_waits

pub returns-clause-prack : goal.returns-clause-prack
returns-clause-prack c = prack_waits

pub returns-clause-cancel : goal.returns-clause-cancel
returns-clause-cancel c = cancel_waits

pub returns-clause-tick : goal.returns-clause-tick
returns-clause-tick c = tick_waits

pub returns-clause-abandon_request : goal.returns-clause-abandon_request
returns-clause-abandon_request c = abandons.request_waits

pub returns-clause-abandon_dialog : goal.returns-clause-abandon_dialog
returns-clause-abandon_dialog c = abandons.dialog_waits
