-- The loop of `in_turn`: there is a done for each piece seen so far.
use Rattle.sip_workers.specs.Ran.{Ran}
use Rattle.sip_workers.proofs.pieces.in_turn.Given as goal

abbrev pub invariant-loop-piece : goal.invariant-loop-piece
invariant-loop-piece g l =
    (goal.iterator-loop-piece g).can_next l.piece-iterator
    × (goal.iterator-loop-piece g).is_finite l.piece-iterator
    × Ran g.J.Job.gives l.yielded l.dones.items
