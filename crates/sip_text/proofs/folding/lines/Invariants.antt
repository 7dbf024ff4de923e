-- The loop of `lines`: the lines found so far are those that the text begins with.
use Rattle.std.proofs.Common.{length}
use Rattle.sip_text.specs.Pieces.{all_now}
use Rattle.sip_text.proofs.LineParts.{HasBefore}
use Rattle.sip_text.proofs.folding.lines.Given as goal

abbrev pub invariant-loop-line : goal.invariant-loop-line
invariant-loop-line l = HasBefore l.text (all_now l.found.items) l.rest

abbrev pub decreases-loop-line : goal.decreases-loop-line
decreases-loop-line l = length l.rest
