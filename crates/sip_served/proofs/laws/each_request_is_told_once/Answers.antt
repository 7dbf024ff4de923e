-- The law `each_request_is_told_once`: the user is told of each request that comes up for the user,
-- once.
use Rattle.sip_served.specs.State.{empty_at}
use Rattle.sip_served.proofs.Shows.{event_shows, never_oftener}
use Rattle.sip_served.proofs.laws.each_request_is_told_once.Goals as goal

pub returns : goal.returns
returns c = record {
  as_it_comes = event_shows;
  once = λ local events id. never_oftener id events (empty_at local);
}
