-- The law `ticks_when_due`: a tick does or says something if, and only if, something is due.
use Rattle.sip_served.proofs.QuietBeforeDue.{busy_from, quiet_before}
use Rattle.sip_served.proofs.laws.ticks_when_due.Goals as goal

pub returns : goal.returns
returns c = record { before = quiet_before; from = busy_from }
