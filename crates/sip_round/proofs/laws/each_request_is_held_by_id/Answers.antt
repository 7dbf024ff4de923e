-- The law `each_request_is_held_by_id`: held requests are in the order of their ids.
use Rattle.sip_round.proofs.CallsHeld.{requests_held_by_id}
use Rattle.sip_round.proofs.laws.each_request_is_held_by_id.Goals as goal

pub returns : goal.returns
returns c = requests_held_by_id
