-- The law `each_response_awaits_its_prack`: which responses await their PRACK.
use Rattle.sip_round.proofs.CallsHeld.{responses_await_as_told}
use Rattle.sip_round.proofs.laws.each_response_awaits_its_prack.Goals as goal

pub returns : goal.returns
returns c = responses_await_as_told
