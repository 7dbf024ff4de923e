-- The law `answered_again_as_before`.
use Rattle.sip_transactions.proofs.Rules.{at_steps}
use Rattle.sip_agent_laws.specs.Transactions.Answered.{AnsweredAsBefore}
use Rattle.sip_agent_laws.proofs.transactions.Repeated.{answered_as_before}
use Rattle.sip_agent_laws.proofs.transactions.answered_again_as_before.Goals as goal

pub returns : goal.returns
returns c = at_steps AnsweredAsBefore answered_as_before
