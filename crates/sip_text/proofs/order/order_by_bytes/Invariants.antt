-- The loop of `order_by_bytes`: the texts agree up to the place reached.
use Rattle.std.proofs.Common.{◌≡◌}
use Rattle.std.specs.declared.cmp.Ordering.TheVariants.{Equal}
use Rattle.sip_text.proofs.WordOrder.{order_to}
use Rattle.sip_text.proofs.order.order_by_bytes.Given as goal

abbrev pub invariant-loop-place : goal.invariant-loop-place
invariant-loop-place l = order_to l.a l.b l.place ≡ Equal
