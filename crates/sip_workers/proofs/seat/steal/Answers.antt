-- `steal`: a stolen piece is added to what the pass took.
use Rattle.std.proofs.Common.{arith, ap}
use Rattle.sip_workers.proofs.Balances.{steals}
use Rattle.sip_workers.proofs.seat.steal.Goals as goal

pub steal_as-requires-clause-takes : goal.steal_as-requires-clause-takes
steal_as-requires-clause-takes g c =
    let p = ap (λ v. v.parts) c.loop.invariant.1 in steals _ _ (omega arith)
