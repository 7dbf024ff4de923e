-- `Host::event_lines`: what lines of a session say fits a session.
use Rattle.std.proofs.Common.{subst}
use Rattle.std.specs.Prelude.{IfSome}
use Rattle.sip_files.proofs.SessionFits.{lines_say}
use Rattle.sip_files.specs.EventLines.{SpellsLines}
use Rattle.sip_host.proofs.host.Host.event_lines.Goals as goal

pub push-requires : goal.push-requires
push-requires c =
    lines_say c.args.lines.now c.in-Some.event
    (subst (λ found. IfSome found (SpellsLines c.args.lines.now)) c.in-Some.is
    c.in_ok-event.ensures.some)
