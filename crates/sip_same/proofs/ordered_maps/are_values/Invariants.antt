-- The values are the others just if what is left of them is.
use Rattle.std.proofs.Common.{◌≡◌}
use Rattle.std.specs.Prelude.{◌↔◌}
use Rattle.std.specs.Map.{values_of}
use Rattle.std.specs.Slice.Iter.{iter_rest}
use Rattle.sip_same.proofs.ordered_maps.are_values.Given as goal

abbrev pub invariant-loop-value : goal.invariant-loop-value
invariant-loop-value g l =
    (values_of l.fn.map.entries ≡ l.fn.values) ↔ (l.value-iterator ≡ iter_rest l.others)
