-- The entries are those of the list just if what is left of them is.
use Rattle.std.proofs.Common.{◌≡◌}
use Rattle.std.specs.Prelude.{◌↔◌}
use Rattle.ordered_map.proofs.ordered_map.are_linked.Given as goal

abbrev pub invariant-loop-key : goal.invariant-loop-key
invariant-loop-key g l =
    (l.fn.linked.entries ≡ l.fn.list.entries) ↔ (l.key-iterator ≡ l.others)
