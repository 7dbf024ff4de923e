-- The loop of `write_rounds`: the rounds so far were read, and those from the first one on were
-- written. No device failed.
use Rattle.std.proofs.Common.{ℕ, List, Option, ◌≡◌}
use Rattle.std.specs.Io.KnownBytes.{prepend_known}
use Rattle.sip_files.specs.Counted.{Counts}
use Rattle.sip_stream.specs.Steps.{IsShortened}
use Rattle.sip_stream.proofs.compaction.write_rounds.Given as goal

abbrev pub invariant-loop : goal.invariant-loop
invariant-loop g l =
    ((input before : Option (List ℕ))
    → IsShortened l.first l.choice.last l.fn.rounds.config l.fn.rounds.number input
    (prepend_known l.fn.rounds.input.text.items (g.R.CountedRead.remaining l.fn.reader)) before
    (g.W.CountedWrite.contents l.fn.writer)
    → IsShortened l.first l.choice.last l.rounds.config l.rounds.number input
    (prepend_known l.rounds.input.text.items (g.R.CountedRead.remaining l.reader)) before
    (g.W.CountedWrite.contents l.writer))
    × Counts (g.R.CountedRead.failures l.fn.reader) (g.R.CountedRead.failures l.reader) 0
    × Counts (g.W.CountedWrite.failures l.fn.writer) (g.W.CountedWrite.failures l.writer) 0
