-- The loop of `steal`: the pass is still that of the deque, and took nothing.
use Rattle.std.proofs.Common.{◌≡◌}
use Rattle.crossbeam_deque.specs.Handles.{view, IsPassOf, stealer_deque}
use Rattle.sip_workers.proofs.seat.steal.Given as goal

abbrev pub invariant-loop : goal.invariant-loop
invariant-loop g l = IsPassOf (stealer_deque l.thief) l.pass × (view l.pass ≡ view l.initial.pass)
