-- `Host::event_line`: what a line of an event file says fits a session.
use Rattle.std.proofs.Common.{subst}
use Rattle.std.specs.Prelude.{IfSome}
use Rattle.sip_files.proofs.SessionFits.{line_says}
use Rattle.sip_files.specs.Written.{SpellsEventLine}
use Rattle.sip_host.proofs.host.Host.event_line.Goals as goal

pub push-requires : goal.push-requires
push-requires c =
    line_says c.args.line.now c.in-Some.event
    (subst (λ found. IfSome found (SpellsEventLine c.args.line.now)) c.in-Some.is
    c.in_ok-event.ensures.some)
