-- The law `dones_in_order`: numbered pieces have different numbers, and each done stands in its
-- place.
use Rattle.sip_workers.proofs.Gathers.{in_order, distinct_numbered}
use Rattle.sip_workers.proofs.gathered.dones_in_order.Goals as goal

pub returns-clause-differ : goal.returns-clause-differ
returns-clause-differ g c = distinct_numbered

pub returns-clause-in_order : goal.returns-clause-in_order
returns-clause-in_order g c = λ pieces dones gathered. in_order g.J.Job.gives pieces dones gathered
