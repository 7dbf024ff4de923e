-- `shared_out`: each seat can begin, and together they give one done for each piece.
use Rattle.std.proofs.Common.{◌≡◌, ap}
use Rattle.crossbeam_deque.specs.Handles.{worker_view}
use Rattle.sip_workers.proofs.Ends.{seats_ready, come_back}
use Rattle.sip_workers.proofs.pieces.shared_out.Goals as goal

pub served-requires-clause-ready : goal.served-requires-clause-ready
served-requires-clause-ready g c = λ κs within. seats_ready _ _ _ c.in_ok-seats.ensures

pub finished-requires-clause-given : goal.finished-requires-clause-given
finished-requires-clause-given g c =
    λ κs within. (
      (worker_view c.in_ok-owner.owner).put,
      come_back g.J.Job.gives _ _ _ _ c.in_ok-seats.ensures c.in_ok-results.ensures,
    )

pub returns : goal.returns
returns g c =
    let filled : (worker_view c.in_ok-owner.owner).put ≡ c.args.pieces.items =
    ap (λ v. v.put) c.in_ok-owner.ensures in
    let are = come_back g.J.Job.gives _ _ _ _ c.in_ok-seats.ensures c.in_ok-results.ensures in
    rw filled at (c.finished.ensures (worker_view c.in_ok-owner.owner).put are)
