-- The law `requests_given_once`: at most one notice `request` has a given id.
use Rattle.sip_round.proofs.RequestsOnce.{requests_once}
use Rattle.sip_round.proofs.laws.requests_given_once.Goals as goal

pub returns : goal.returns
returns c = λ config rounds.
    record {
      handed_up = c.one_request_in_each_life.ensures config rounds;
      told = requests_once config rounds;
    }
