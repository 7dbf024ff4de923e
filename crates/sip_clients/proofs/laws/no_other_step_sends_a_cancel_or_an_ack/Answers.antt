-- The law `no_other_step_sends_a_cancel_or_an_ack`, step by step.
use Rattle.sip_clients.proofs.OtherSends.{ack_no_cancel, cancel_no_ack, invite_no_ack, invite_no_cancel, lost_no_ack, lost_no_cancel, plain_no_ack, plain_no_cancel, prack_no_ack, prack_no_cancel, request_no_ack, request_no_cancel, response_by_status, tick_no_ack, tick_no_cancel}
use Rattle.sip_clients.proofs.Abandons as abandons
use Rattle.sip_clients.proofs.laws.no_other_step_sends_a_cancel_or_an_ack.Goals as goal

pub returns-clause-response : goal.returns-clause-response
returns-clause-response c = response_by_status

pub returns-clause-ack : goal.returns-clause-ack
returns-clause-ack c = ack_no_cancel

pub returns-clause-cancel : goal.returns-clause-cancel
returns-clause-cancel c = cancel_no_ack

pub returns-clause-lost : goal.returns-clause-lost
returns-clause-lost c id timed_out = (lost_no_cancel id timed_out, lost_no_ack id timed_out)

pub returns-clause-tick : goal.returns-clause-tick
returns-clause-tick c now = (tick_no_cancel now, tick_no_ack now)

pub returns-clause-invite : goal.returns-clause-invite
returns-clause-invite c event invite = (invite_no_cancel event invite, invite_no_ack event invite)

pub returns-clause-plain : goal.returns-clause-plain
returns-clause-plain c event plain = (plain_no_cancel event plain, plain_no_ack event plain)

pub returns-clause-request : goal.returns-clause-request
returns-clause-request c event command =
    (request_no_cancel event command, request_no_ack event command)

pub returns-clause-prack : goal.returns-clause-prack
returns-clause-prack c event command = (prack_no_cancel event command, prack_no_ack event command)

pub returns-clause-abandon_request : goal.returns-clause-abandon_request
returns-clause-abandon_request c event command =
    (abandons.request_no_cancel event command, abandons.request_no_ack event command)

pub returns-clause-abandon_dialog : goal.returns-clause-abandon_dialog
returns-clause-abandon_dialog c event command =
    (abandons.dialog_no_cancel event command, abandons.dialog_no_ack event command)
