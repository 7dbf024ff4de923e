-- The values are the others just if what is left of them is.
use Rattle.std.proofs.Common.{◌≡◌}
use Rattle.std.specs.Prelude.{◌↔◌}
use Rattle.std.specs.Map.{values_of}
use Rattle.sip_same.proofs.ordered_maps.have_same_values.Given as goal

abbrev pub invariant-loop-value : goal.invariant-loop-value
invariant-loop-value g l =
    (values_of l.fn.map.entries ≡ values_of l.fn.other.entries) ↔ (l.value-iterator ≡ l.others)
