-- The loop of `Columns::of`: the first twelve distinct peers of the lines so far.
use Rattle.std.proofs.Common.{◌≡◌, take}
use Rattle.sip_ladder.specs.Columns.{distinct}
use Rattle.sip_ladder.proofs.Arrows.{arrows}
use Rattle.sip_ladder.proofs.columns.Columns.of.Given as goal

abbrev pub invariant-loop-line : goal.invariant-loop-line
invariant-loop-line l = l.peers.items ≡ take 12 (distinct (arrows (take l.line-index l.lines)))
