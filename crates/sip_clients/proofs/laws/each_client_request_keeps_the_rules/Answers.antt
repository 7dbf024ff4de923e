-- The law `each_client_request_keeps_the_rules`: what happens to a client request is allowed by
-- what happened before.
use Rattle.sip_clients.proofs.CommandStories.{ack_rules, cancel_rules, invite_rules, lost_rules, plain_rules, prack_rules, request_rules, tick_rules}
use Rattle.sip_clients.proofs.ReplyStories.{response_rules}
use Rattle.sip_clients.proofs.Abandons as abandons
use Rattle.sip_clients.proofs.laws.each_client_request_keeps_the_rules.Goals as goal

pub returns-clause-response : goal.returns-clause-response
returns-clause-response c = response_rules

pub returns-clause-lost : goal.returns-clause-lost
returns-clause-lost c = lost_rules

pub returns-clause-invite : goal.returns-clause-invite
returns-clause-invite c = invite_rules

pub returns-clause-plain : goal.returns-clause-plain
returns-clause-plain c = plain_rules

pub returns-clause-request : goal.returns-clause-request
returns-clause-request c = request_rules

pub returns-clause-ack : goal.returns-clause-ack
returns-clause-ack c = ack_rules

pub returns-clause-prack : goal.returns-clause-prack
returns-clause-prack c = prack_rules

pub returns-clause-cancel : goal.returns-clause-cancel
returns-clause-cancel c = cancel_rules

pub returns-clause-tick : goal.returns-clause-tick
returns-clause-tick c = tick_rules

pub returns-clause-abandon_request : goal.returns-clause-abandon_request
returns-clause-abandon_request c = abandons.request_rules

pub returns-clause-abandon_dialog : goal.returns-clause-abandon_dialog
returns-clause-abandon_dialog c = abandons.dialog_rules
