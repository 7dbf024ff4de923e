-- The loop of `read_lines`: what the lines so far say, and what is left.
use Rattle.std.proofs.Common.{◌+◌, ◌≤◌, length}
use Rattle.sip_files.proofs.ReadSoFar.{SoFar}
use Rattle.sip_files.proofs.events_file.read_lines.Given as goal

-- each line takes at least one byte, so the number of lines is bounded by that of bytes
abbrev pub invariant-loop-left : goal.invariant-loop-left
invariant-loop-left l =
    record {
      so_far : SoFar l.version l.progress l.number l.text l.left;
      few : l.number + length l.left ≤ 2 + length l.text;
    }

abbrev pub decreases-loop-left : goal.decreases-loop-left
decreases-loop-left l = length l.left
