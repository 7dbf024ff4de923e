-- The loop of `thieve`: the thief has its one part, and a done for each piece it stole.
use Rattle.std.proofs.Common.{◌≡◌, []}
use Rattle.crossbeam_deque.specs.Handles.{view, IsPassOf, stealer_deque}
use Rattle.sip_workers.specs.Ran.{Ran}
use Rattle.sip_workers.proofs.seat.thieve.Given as goal

abbrev pub invariant-loop : goal.invariant-loop
invariant-loop g l =
    IsPassOf (stealer_deque l.thief) l.pass
    × ((view l.pass).parts ≡ 1)
    × ((view l.pass).put ≡ [])
    × Ran g.J.Job.gives (view l.pass).taken l.dones.items
