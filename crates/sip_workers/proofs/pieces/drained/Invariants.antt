-- The loop of `drained`: the owner has every part, and a done for each piece taken so far.
use Rattle.std.proofs.Common.{◌≡◌, ◌-◌, length}
use Rattle.crossbeam_deque.specs.Handles.{worker_view}
use Rattle.sip_workers.specs.Ran.{Ran}
use Rattle.sip_workers.proofs.pieces.drained.Given as goal

abbrev pub invariant-loop-piece : goal.invariant-loop-piece
invariant-loop-piece g l =
    ((worker_view l.owner).parts ≡ 64)
    × ((worker_view l.owner).put ≡ (worker_view l.initial.owner).put)
    × Ran g.J.Job.gives (worker_view l.owner).taken l.dones.items

abbrev pub decreases-loop-piece : goal.decreases-loop-piece
decreases-loop-piece g l = length (worker_view l.owner).put - length (worker_view l.owner).taken
