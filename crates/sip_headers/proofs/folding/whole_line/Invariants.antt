-- The loop of `whole_line`: the line so far and the rest give the same whole lines as the line and
-- the text.
use Rattle.std.proofs.Common.{◌≡◌, ◌≤◌, length}
use Rattle.sip_headers.specs.Folding.{folded_onto, section_at}
use Rattle.sip_headers.specs.Steps.Drafted.{lines_at, onto_section}
use Rattle.sip_headers.specs.Whole.{whole_now}
use Rattle.sip_headers.proofs.folding.whole_line.Given as goal

abbrev pub invariant-loop-more : goal.invariant-loop-more
invariant-loop-more l = record {
  same : onto_section (whole_now l.whole) (section_at l.rest)
      ≡ onto_section l.line (section_at l.text);
  lines : folded_onto (whole_now l.whole) (lines_at l.rest)
      ≡ folded_onto l.line (lines_at l.text);
  shorter : length l.rest ≤ length l.text;
}

abbrev pub decreases-loop-more : goal.decreases-loop-more
decreases-loop-more l = length l.rest
