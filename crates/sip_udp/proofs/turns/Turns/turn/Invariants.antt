-- The loop of `Turns::turn`: the desk has the same lines.
use Rattle.sip_desk.specs.Lines.{KeepsLines}
use Rattle.sip_udp.proofs.turns.Turns.turn.Given as goal

abbrev pub invariant-loop : goal.invariant-loop
invariant-loop g l = KeepsLines l.initial.desk l.desk
