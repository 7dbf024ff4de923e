-- The law `requests_given_by_id`: the notices `request` come by rising ids.
use Rattle.sip_round.proofs.RequestsRise.{requests_rise}
use Rattle.sip_round.proofs.laws.requests_given_by_id.Goals as goal

pub returns : goal.returns
returns c = requests_rise
