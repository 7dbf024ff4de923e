-- The law `commands_are_by_the_rules`: for each command the rule says the same as the step.
use Rattle.sip_clients.proofs.RuleRequests.{ack_same, cancel_same, invite_same, plain_same, prack_same, request_same}
use Rattle.sip_clients.proofs.Abandons as abandons
use Rattle.sip_clients.proofs.rules.commands_are_by_the_rules.Goals as goal

pub returns-clause-invite : goal.returns-clause-invite
returns-clause-invite c = invite_same

pub returns-clause-plain : goal.returns-clause-plain
returns-clause-plain c = plain_same

pub returns-clause-request : goal.returns-clause-request
returns-clause-request c = request_same

pub returns-clause-ack : goal.returns-clause-ack
returns-clause-ack c = ack_same

pub returns-clause-prack : goal.returns-clause-prack
returns-clause-prack c = prack_same

pub returns-clause-cancel : goal.returns-clause-cancel
returns-clause-cancel c = cancel_same

pub returns-clause-abandon_request : goal.returns-clause-abandon_request
returns-clause-abandon_request c = abandons.request_same

pub returns-clause-abandon_dialog : goal.returns-clause-abandon_dialog
returns-clause-abandon_dialog c = abandons.dialog_same
