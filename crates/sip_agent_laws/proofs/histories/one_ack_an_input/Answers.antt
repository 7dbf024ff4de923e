-- The law `one_ack_an_input`: one input sends at most one ACK.
use Rattle.sip_agent_laws.proofs.histories.OneAck.{one_ack_an_input}
use Rattle.sip_agent_laws.proofs.histories.one_ack_an_input.Goals as goal

pub returns : goal.returns
returns c = one_ack_an_input
