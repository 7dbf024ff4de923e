-- The law `one_request_up`: a life of a server hands its request up once, by its first input.
use Rattle.sip_transactions.specs.Laws.{OneRequestUp}
use Rattle.sip_transactions.proofs.OneRequest as once
use Rattle.sip_transactions.proofs.Rules.{at_steps}
use Rattle.sip_transactions.proofs.laws.one_request_up.Goals as goal

pub returns : goal.returns
returns c = at_steps OneRequestUp once.one_request_up
