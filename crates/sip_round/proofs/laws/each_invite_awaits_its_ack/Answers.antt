-- The law `each_invite_awaits_its_ack`: when a held INVITE awaits its ACK.
use Rattle.sip_round.proofs.CallsHeld.{invites_await_as_told}
use Rattle.sip_round.proofs.laws.each_invite_awaits_its_ack.Goals as goal

pub returns : goal.returns
returns c = invites_await_as_told
