-- The loop of `write_notices`: the outputs so far were told.
use Rattle.std.proofs.Common.{take}
use Rattle.sip_udp.proofs.Told.{ToldSoFar}
use Rattle.sip_udp.proofs.notices.write_notices.Given as goal

abbrev pub invariant-loop-placed : goal.invariant-loop-placed
invariant-loop-placed g l =
    ToldSoFar l.telling.kind l.telling.drops l.events (g.W.Write.contents l.fn.writer)
    (g.W.Write.contents l.writer) (take l.placed-index l.outputs)
