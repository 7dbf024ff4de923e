-- The loop of `unfolded`: the text so far, with the rest unfolded behind it, is the unfolded text.
use Rattle.std.proofs.Common.{◌≡◌, length}
use Rattle.sip_text.specs.Unfolded.{unfolded}
use Rattle.sip_text.proofs.LineParts.{folded_behind}
use Rattle.sip_text.proofs.folding.unfolded.Given as goal

abbrev pub invariant-loop-line : goal.invariant-loop-line
invariant-loop-line l = folded_behind l.whole.items l.rest ≡ unfolded l.text

abbrev pub decreases-loop-line : goal.decreases-loop-line
decreases-loop-line l = length l.rest
