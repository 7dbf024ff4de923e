-- The loop of `a_session_may_have_what_fits`: a session may have each event so far that fits.
use Rattle.std.proofs.Common.{take}
use Rattle.std.specs.List.{AllByRecursion}
use Rattle.sip_files.specs.Written.{FitsSession, IsEventOf, IsSessionCommand}
use Rattle.sip_files.proofs.laws.a_session_may_have_what_fits.Given as goal

abbrev pub invariant-loop-event : goal.invariant-loop-event
invariant-loop-event l =
    AllByRecursion (λ event. FitsSession event → IsEventOf IsSessionCommand event)
    (take l.event-index l.round.events)
