-- The law `an_invite_awaits_its_ack_as_told`: whether a held INVITE awaits its ACK follows from the
-- outputs.
use Rattle.sip_calls.proofs.Awaiting.{awaits_as_told}
use Rattle.sip_calls.proofs.laws.an_invite_awaits_its_ack_as_told.Goals as goal

pub returns : goal.returns
returns c = awaits_as_told
