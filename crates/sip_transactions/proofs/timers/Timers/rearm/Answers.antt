-- `Timers::rearm`: a first repeat has its end 64*T1 later, so it is paced.
use Rattle.sip_transactions.proofs.Pace.{paced_at_first}
use Rattle.sip_transactions.proofs.timers.Timers.rearm.Goals as goal

pub invariant_of-self-in-Both : goal.invariant_of-self-in-Both
invariant_of-self-in-Both c =
    rw (c.from-in-Both.ensures, c.from-in-Both-2.ensures) (paced_at_first c.args.now)
