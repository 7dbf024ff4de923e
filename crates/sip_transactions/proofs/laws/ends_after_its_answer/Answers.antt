-- The law `ends_after_its_answer`: a server of a request other than INVITE ends 64*T1 after its
-- final answer.
use Rattle.sip_transactions.specs.ServerLaws.{EndsAfterItsAnswer}
use Rattle.sip_transactions.proofs.AtServers as servers
use Rattle.sip_transactions.proofs.Rules.{at_steps}
use Rattle.sip_transactions.proofs.laws.ends_after_its_answer.Goals as goal

pub returns : goal.returns
returns c = at_steps EndsAfterItsAnswer servers.ends_after_its_answer
