-- The loop of `send_all`: the outputs sent so far, and those that are left with their keys.
use Rattle.std.specs.Vec.{vec_capacity}
use Rattle.std.specs.Vec.Iter.{into_iter_items}
use Rattle.sip_udp.proofs.Sendings.{SoFar}
use Rattle.sip_udp.proofs.sending.send_all.Given as goal

abbrev pub invariant-loop-key : goal.invariant-loop-key
invariant-loop-key g l =
    SoFar (g.O.Outlet.asked l.initial.outlet) (g.O.Outlet.asked l.outlet) l.outputs l.left
    (into_iter_items l.key-iterator) l.failed.items (vec_capacity l.failed)
