-- The law `requests_are_held_by_id`: if ids rise, the held requests are in the order of their ids.
use Rattle.sip_calls.proofs.HeldById.{held_by_id}
use Rattle.sip_calls.proofs.laws.requests_are_held_by_id.Goals as goal

pub returns : goal.returns
returns c = held_by_id
