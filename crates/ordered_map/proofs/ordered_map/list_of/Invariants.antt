-- The loop of `list_of`: what it took out, and then what is left, are all entries.
use Rattle.std.proofs.Common.{◌≡◌, ◌++◌, length}
use Rattle.ordered_map.proofs.ordered_map.list_of.Given as goal

abbrev pub invariant-loop-key : goal.invariant-loop-key
invariant-loop-key g l = l.entries.entries ++ l.linked.entries ≡ l.initial.linked.entries

abbrev pub decreases-loop-key : goal.decreases-loop-key
decreases-loop-key g l = length l.linked.entries
