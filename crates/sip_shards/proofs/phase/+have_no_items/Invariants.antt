-- The recursion of `have_no_items` ends, since the list of parts gets shorter.
use Rattle.std.proofs.Common.{length}
use Rattle.sip_shards.proofs.phase.+have_no_items.Given as goal

abbrev pub decreases-have_no_items : goal.decreases-have_no_items
decreases-have_no_items g l = length l.parts.now
