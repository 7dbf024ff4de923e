-- The loop of `of`: those so far are held in their order.
use Rattle.std.proofs.Common.{◌≡◌}
use Rattle.sip_served.proofs.indexed_requests.IndexedRequests.of.Given as goal

abbrev pub invariant-loop-held : goal.invariant-loop-held
invariant-loop-held l = l.all ≡ l.yielded
