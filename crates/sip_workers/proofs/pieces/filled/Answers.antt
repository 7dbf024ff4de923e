-- `filled`: a new deque keeps the rule, and so does each piece put in.
use Rattle.std.proofs.Common.{arith, ap}
use Rattle.sip_workers.proofs.Balances.{begins, puts}
use Rattle.sip_workers.proofs.pieces.filled.Goals as goal

pub fifo_as-requires : goal.fifo_as-requires
fifo_as-requires g c = begins

pub push_as-requires-clause-pushes : goal.push_as-requires-clause-pushes
push_as-requires-clause-pushes g c =
    let p = ap (λ v. v.parts) c.loop-piece.invariant.2 in puts _ _ _ (omega arith)
