-- The loop of `seated`: each seat so far is a thief with one part, and the owner has the others.
use Rattle.std.proofs.Common.{◌≡◌, ◌+◌, length}
use Rattle.std.specs.List.{AllByRecursion}
use Rattle.crossbeam_deque.specs.Handles.{worker_deque, worker_view}
use Rattle.sip_workers.specs.Seats.{IsThiefOf}
use Rattle.sip_workers.proofs.pieces.seated.Given as goal

abbrev pub invariant-loop : goal.invariant-loop
invariant-loop g l =
    (worker_deque l.owner ≡ worker_deque l.initial.owner)
    × ((worker_view l.owner).parts + l.counter ≡ 64)
    × ((worker_view l.owner).put ≡ (worker_view l.initial.owner).put)
    × ((worker_view l.owner).taken ≡ (worker_view l.initial.owner).taken)
    × (length l.seats.items ≡ l.counter)
    × AllByRecursion (IsThiefOf l.initial.owner) l.seats.items
