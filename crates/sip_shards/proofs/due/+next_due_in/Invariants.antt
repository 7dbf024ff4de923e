-- The recursion of `next_due_in` ends, since the list of shards gets shorter.
use Rattle.std.proofs.Common.{length}
use Rattle.sip_shards.proofs.due.+next_due_in.Given as goal

abbrev pub decreases-next_due_in : goal.decreases-next_due_in
decreases-next_due_in g l = length l.shards.now
