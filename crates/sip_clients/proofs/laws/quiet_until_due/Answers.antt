-- The law `quiet_until_due`: before an INVITE is due to be removed, a tick does nothing.
use Rattle.sip_clients.proofs.QuietBeforeDue.{clients_quiet_before}
use Rattle.sip_clients.proofs.laws.quiet_until_due.Goals as goal

pub returns : goal.returns
returns c = clients_quiet_before
