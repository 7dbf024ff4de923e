-- The loop of `byte_order`: the texts agree up to the place reached.
use Rattle.std.proofs.Common.{◌≡◌, ◌≤◌, ◌-◌}
use Rattle.std.specs.declared.cmp.Ordering.TheVariants.{Equal}
use Rattle.sip_text.proofs.WordOrder.{order_to}
use Rattle.sip_text.proofs.order.byte_order.Given as goal

abbrev pub invariant-loop-place : goal.invariant-loop-place
invariant-loop-place l =
    record { within : l.place ≤ l.both; equal : order_to l.a l.b l.place ≡ Equal }

abbrev pub decreases-loop-place : goal.decreases-loop-place
decreases-loop-place l = l.last - l.place
