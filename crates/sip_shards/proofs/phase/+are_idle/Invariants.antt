-- The recursion of `are_idle` ends, since the list of shards gets shorter.
use Rattle.std.proofs.Common.{length}
use Rattle.sip_shards.proofs.phase.+are_idle.Given as goal

abbrev pub decreases-are_idle : goal.decreases-are_idle
decreases-are_idle g l = length l.shards.now
