-- The loop of `add_plain`: the lines so far are added; with those of the rest they are the same.
use Rattle.std.proofs.Common.{◌≡◌, ◌≤◌, length}
use Rattle.sip_headers.specs.Steps.Drafted.{drafted_at}
use Rattle.sip_headers.proofs.folding.add_plain.Given as goal

abbrev pub invariant-loop-class : goal.invariant-loop-class
invariant-loop-class l = record {
  same : drafted_at l.draft l.rest ≡ drafted_at l.fn.draft l.text;
  shorter : length l.rest ≤ length l.text;
}

abbrev pub decreases-loop-class : goal.decreases-loop-class
decreases-loop-class l = length l.rest
