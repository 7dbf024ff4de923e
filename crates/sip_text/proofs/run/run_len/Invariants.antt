-- The loops of `run_len`: all bytes before the index belong to the class.
use Rattle.std.proofs.Common.{length, ◌-◌}
use Rattle.sip_text.proofs.Runs.{PassesTo}
use Rattle.sip_text.proofs.run.run_len.Given as goal

abbrev pub invariant-loop-index : goal.invariant-loop-index
invariant-loop-index g l = PassesTo g.C.ByteClass.holds l.text l.index

abbrev pub decreases-loop-index : goal.decreases-loop-index
decreases-loop-index g l = length l.text - l.index

abbrev pub invariant-loop-index-2 : goal.invariant-loop-index-2
invariant-loop-index-2 g l = PassesTo g.C.ByteClass.holds l.text l.index

abbrev pub decreases-loop-index-2 : goal.decreases-loop-index-2
decreases-loop-index-2 g l = length l.text - l.index
