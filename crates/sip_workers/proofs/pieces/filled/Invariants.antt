-- The loop of `filled`: the pieces put in are those seen so far.
use Rattle.std.proofs.Common.{◌≡◌, []}
use Rattle.crossbeam_deque.specs.Handles.{worker_view}
use Rattle.sip_workers.specs.Balance.{log}
use Rattle.sip_workers.proofs.pieces.filled.Given as goal

abbrev pub invariant-loop-piece : goal.invariant-loop-piece
invariant-loop-piece g l =
    (goal.iterator-loop-piece g).can_next l.piece-iterator
    × (goal.iterator-loop-piece g).is_finite l.piece-iterator
    × (worker_view l.owner ≡ log 64 l.yielded [])
