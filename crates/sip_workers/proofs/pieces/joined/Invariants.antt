-- The loop of `joined`: the parts of the owner and of the thieves left are 64 in all.
use Rattle.std.proofs.Common.{◌≡◌, ◌+◌, vec_len}
use Rattle.std.specs.List.{AllByRecursion}
use Rattle.crossbeam_deque.specs.Handles.{worker_deque, worker_view}
use Rattle.sip_workers.specs.Ran.{Ran}
use Rattle.sip_workers.specs.Seats.{IsThiefsResult}
use Rattle.sip_workers.proofs.pieces.joined.Given as goal

abbrev pub invariant-loop-result : goal.invariant-loop-result
invariant-loop-result g l =
    (worker_deque l.owner ≡ worker_deque l.initial.owner)
    × ((worker_view l.owner).parts + vec_len l.thieves ≡ 64)
    × ((worker_view l.owner).put ≡ (worker_view l.initial.owner).put)
    × AllByRecursion (IsThiefsResult g.J.Job.gives l.initial.owner) l.thieves.items
    × Ran g.J.Job.gives (worker_view l.owner).taken l.dones.items

abbrev pub decreases-loop-result : goal.decreases-loop-result
decreases-loop-result g l = vec_len l.thieves
