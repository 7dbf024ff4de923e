-- The law `each_invite_ends`.
use Rattle.sip_transactions.proofs.Rules.{at_steps}
use Rattle.sip_agent_laws.specs.Transactions.Outcomes.{EachInviteEnds}
use Rattle.sip_agent_laws.proofs.transactions.Ends as ends
use Rattle.sip_agent_laws.proofs.transactions.each_invite_ends.Goals as goal

pub returns : goal.returns
returns c = at_steps EachInviteEnds ends.each_invite_ends
