-- The loop of `take_rounds`: no read failed.
use Rattle.sip_files.specs.Counted.{Counts}
use Rattle.sip_stream.proofs.compaction.Choice.take_rounds.Given as goal

abbrev pub invariant-loop : goal.invariant-loop
invariant-loop g l =
    Counts (g.R.CountedRead.failures l.fn.reader) (g.R.CountedRead.failures l.reader) 0
