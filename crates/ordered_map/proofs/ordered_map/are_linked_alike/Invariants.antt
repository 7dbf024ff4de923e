-- The entries are the others just if what is left of them is.
use Rattle.std.proofs.Common.{◌≡◌}
use Rattle.std.specs.Prelude.{◌↔◌}
use Rattle.ordered_map.proofs.ordered_map.are_linked_alike.Given as goal

abbrev pub invariant-loop-key : goal.invariant-loop-key
invariant-loop-key g l = (l.fn.map.entries ≡ l.fn.other.entries) ↔ (l.key-iterator ≡ l.others)
