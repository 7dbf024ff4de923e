-- The recursion of `place_in` ends, since the list of peers gets shorter.
use Rattle.std.proofs.Common.{length}
use Rattle.sip_ladder.proofs.columns.+place_in.Given as goal

abbrev pub decreases-place_in : goal.decreases-place_in
decreases-place_in l = length l.peers.now
