-- The law `each_request_holds_its_history`: a held request is what its story says.
use Rattle.sip_round.proofs.CallsHeld.{requests_have_their_stories}
use Rattle.sip_round.proofs.laws.each_request_holds_its_history.Goals as goal

pub returns : goal.returns
returns c = requests_have_their_stories
