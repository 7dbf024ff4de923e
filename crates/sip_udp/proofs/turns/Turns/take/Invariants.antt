-- The loop of `Turns::take`: the desk has the same lines.
use Rattle.sip_desk.specs.Lines.{KeepsLines}
use Rattle.sip_udp.proofs.turns.Turns.take.Given as goal

abbrev pub invariant-loop-turns_left : goal.invariant-loop-turns_left
invariant-loop-turns_left g l = KeepsLines l.initial.desk l.desk
