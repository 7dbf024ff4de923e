-- The loop of `Desk::pass`: the events so far were collected; without one, the lines so far are
-- dry.
use Rattle.std.proofs.Common.{◌≡◌, ℕ, ◌<◌, ◌≤◌, []}
use Rattle.std.specs.Vec.{vec_len, vec_capacity}
use Rattle.sip_desk.specs.Lines.{seen, KeepsLines}
use Rattle.sip_desk.specs.Collected.{Gathers}
use Rattle.sip_desk.proofs.desk.Desk.pass.Given as goal

abbrev pub invariant-loop-line : goal.invariant-loop-line
invariant-loop-line g l =
    Gathers l.initial.self l.self l.initial.events.items l.events.items
    × KeepsLines l.initial.self l.self
    × (vec_capacity l.events ≡ l.max)
    × (vec_len l.events ≤ l.max)
    × (l.before ≤ vec_len l.events)
    × (vec_len l.events ≤ l.before → (j : ℕ) → j < l.line → seen l.self j ≡ [])
