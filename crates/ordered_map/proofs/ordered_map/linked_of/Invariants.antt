-- The loop of `linked_of`: what is left, and then what it took out, are all entries.
use Rattle.std.proofs.Common.{◌≡◌, ◌++◌, length}
use Rattle.ordered_map.proofs.ordered_map.linked_of.Given as goal

abbrev pub invariant-loop-key : goal.invariant-loop-key
invariant-loop-key g l = l.entries.entries ++ l.linked.entries ≡ l.initial.entries.entries

abbrev pub decreases-loop-key : goal.decreases-loop-key
decreases-loop-key g l = length l.entries.entries
