-- The law `answered_again`: a retransmitted request that was answered gets the same bytes again.
use Rattle.sip_transactions.specs.ServerLaws.{AnsweredAgain}
use Rattle.sip_transactions.proofs.AtServers as servers
use Rattle.sip_transactions.proofs.Rules.{at_steps}
use Rattle.sip_transactions.proofs.laws.answered_again.Goals as goal

pub returns : goal.returns
returns c = at_steps AnsweredAgain servers.answered_again
