-- The law `a_rejection_is_repeated`.
use Rattle.sip_transactions.proofs.Rules.{at_steps}
use Rattle.sip_agent_laws.specs.Transactions.Copies.{EachRejectionIsRepeated}
use Rattle.sip_agent_laws.proofs.transactions.Rejections as rejections
use Rattle.sip_agent_laws.proofs.transactions.a_rejection_is_repeated.Goals as goal

pub returns : goal.returns
returns c = at_steps EachRejectionIsRepeated rejections.a_rejection_is_repeated
