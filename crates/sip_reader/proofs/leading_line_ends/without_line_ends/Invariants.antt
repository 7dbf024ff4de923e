-- The loop of `without_line_ends`: the rest has the same text after its line ends as the whole.
use Rattle.std.proofs.Common.{◌≡◌, length}
use Rattle.sip_reader.specs.SkippedEnds as layout
use Rattle.sip_reader.proofs.leading_line_ends.without_line_ends.Given as goal

abbrev pub invariant-loop-rest : goal.invariant-loop-rest
invariant-loop-rest l = layout.without_line_ends l.rest ≡ layout.without_line_ends l.text

abbrev pub decreases-loop-rest : goal.decreases-loop-rest
decreases-loop-rest l = length l.rest
