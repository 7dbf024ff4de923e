-- The law `requests_come_up_by_id`: if ids rise, requests are handed up in the order of their ids.
use Rattle.sip_transactions.specs.Laws.{RequestsComeUpById}
use Rattle.sip_transactions.proofs.RequestsById as by_id
use Rattle.sip_transactions.proofs.Rules.{at_steps}
use Rattle.sip_transactions.proofs.laws.requests_come_up_by_id.Goals as goal

pub returns : goal.returns
returns c = at_steps RequestsComeUpById by_id.requests_come_up_by_id
