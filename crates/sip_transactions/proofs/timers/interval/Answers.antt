-- `interval`: a doubled interval is at most 512,000 ms.
use Rattle.std.proofs.Common.{arith}
use Rattle.sip_transactions.proofs.Pace.{doubled_bound}
use Rattle.sip_transactions.proofs.timers.interval.Goals as goal

pub returns-in-Doubled-clause-bound : goal.returns-in-Doubled-clause-bound
returns-in-Doubled-clause-bound c =
    rw c.from.ensures (omega (arith, doubled_bound c.args.fired c.requires))
