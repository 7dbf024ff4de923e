-- The loop of `Desk::collect`: the events so far were collected, and the lines are the same.
use Rattle.std.proofs.Common.{◌≡◌, ◌≤◌, ◌-◌, []}
use Rattle.std.specs.Vec.{vec_len, vec_capacity}
use Rattle.sip_desk.specs.Lines.{KeepsLines}
use Rattle.sip_desk.specs.Collected.{Gathers}
use Rattle.sip_desk.proofs.desk.Desk.collect.Given as goal

abbrev pub invariant-loop : goal.invariant-loop
invariant-loop g l =
    Gathers l.initial.self l.self [] l.events.items
    × KeepsLines l.initial.self l.self
    × (vec_capacity l.events ≡ l.max)
    × (vec_len l.events ≤ l.max)

abbrev pub decreases-loop : goal.decreases-loop
decreases-loop g l = l.max - vec_len l.events
