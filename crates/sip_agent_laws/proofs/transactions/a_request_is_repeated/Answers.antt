-- The law `a_request_is_repeated`.
use Rattle.sip_transactions.proofs.Rules.{at_steps}
use Rattle.sip_agent_laws.specs.Transactions.Copies.{EachRequestIsRepeated}
use Rattle.sip_agent_laws.proofs.transactions.OftenSent as often
use Rattle.sip_agent_laws.proofs.transactions.a_request_is_repeated.Goals as goal

pub returns : goal.returns
returns c = at_steps EachRequestIsRepeated often.a_request_is_repeated
