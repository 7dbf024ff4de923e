-- `Host::resume`: the events of the round that the lines say fit a session.
use Rattle.sip_files.proofs.SessionFits.{round_says}
use Rattle.sip_host.proofs.host.Host.resume.Goals as goal

pub go_on-requires-clause-fits : goal.go_on-requires-clause-fits
go_on-requires-clause-fits c =
    round_says c.first_round_of-lines.result.now c.in_ok-round.round c.in_ok-round.ensures.found
