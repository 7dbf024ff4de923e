-- The loop of `own`: the owner has the same deque and parts, and a done for each piece it took.
use Rattle.std.proofs.Common.{◌≡◌}
use Rattle.crossbeam_deque.specs.Handles.{worker_deque, worker_view}
use Rattle.sip_workers.specs.Ran.{Ran}
use Rattle.sip_workers.proofs.seat.own.Given as goal

abbrev pub invariant-loop : goal.invariant-loop
invariant-loop g l =
    (worker_deque l.owner ≡ worker_deque l.initial.owner)
    × ((worker_view l.owner).parts ≡ (worker_view l.initial.owner).parts)
    × ((worker_view l.owner).put ≡ (worker_view l.initial.owner).put)
    × Ran g.J.Job.gives (worker_view l.owner).taken l.dones.items
