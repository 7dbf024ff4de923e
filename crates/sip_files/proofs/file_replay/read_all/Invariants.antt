-- The loop of `read_all`: the text so far, and how many reads it took.
use Rattle.sip_files.proofs.Streams.{ReadSoFar}
use Rattle.sip_files.proofs.file_replay.read_all.Given as goal

abbrev pub invariant-loop : goal.invariant-loop
invariant-loop g l =
    ReadSoFar (g.R.CountedRead.remaining l.fn.reader) (g.R.CountedRead.remaining l.reader)
    (g.R.CountedRead.reads l.fn.reader) (g.R.CountedRead.reads l.reader)
    (g.R.CountedRead.failures l.fn.reader) (g.R.CountedRead.failures l.reader) l.text.items
    l.counter
