-- The loop of `find_two`: neither byte stands before the place reached.
use Rattle.std.proofs.Common.{◌-◌, ◌≤◌, length}
use Rattle.memchr.specs.Find.{Nowhere, Passes, is_byte2}
use Rattle.sip_text.proofs.find.find_two.Given as goal

abbrev pub invariant-loop-place : goal.invariant-loop-place
invariant-loop-place l =
    record {
      within : l.place ≤ length l.text;
      none : Nowhere (Passes (is_byte2 l.one l.other) l.text) 0 l.place;
    }

abbrev pub decreases-loop-place : goal.decreases-loop-place
decreases-loop-place l = l.last - l.place
