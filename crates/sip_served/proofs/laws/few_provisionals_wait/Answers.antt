-- The law `few_provisionals_wait`: few reliable provisional responses to a request wait for their
-- PRACK.
use Rattle.sip_served.proofs.FewWait.{few_wait}
use Rattle.sip_served.proofs.laws.few_provisionals_wait.Goals as goal

pub returns : goal.returns
returns c = record { held = few_wait }
