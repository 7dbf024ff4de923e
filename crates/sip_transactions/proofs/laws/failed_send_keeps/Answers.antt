-- The law `failed_send_keeps`: a failed send doesn't change the life of a server.
use Rattle.sip_transactions.specs.ServerLaws.{FailedSendKeeps}
use Rattle.sip_transactions.proofs.AtServers as servers
use Rattle.sip_transactions.proofs.Rules.{at_steps}
use Rattle.sip_transactions.proofs.laws.failed_send_keeps.Goals as goal

pub returns : goal.returns
returns c = at_steps FailedSendKeeps servers.failed_send_keeps
