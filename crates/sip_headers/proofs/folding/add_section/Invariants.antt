-- The loop of `add_section`: the lines so far are added; with those of the rest they are the same.
use Rattle.std.proofs.Common.{◌≡◌, length}
use Rattle.sip_headers.specs.Steps.Drafted.{drafted_at}
use Rattle.sip_headers.proofs.folding.add_section.Given as goal

abbrev pub invariant-loop-line : goal.invariant-loop-line
invariant-loop-line l = drafted_at l.draft l.rest ≡ drafted_at l.fn.draft l.text

abbrev pub decreases-loop-line : goal.decreases-loop-line
decreases-loop-line l = length l.rest
