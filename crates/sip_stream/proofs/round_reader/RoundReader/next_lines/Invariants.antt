-- The loop of `next_lines`: what is left to give stays the same, and where nothing more comes, it
-- is the text. No read failed. What was searched of the text grows with it.
use Rattle.std.proofs.Common.{◌≡◌, ◌+◌, ◌≤◌, ◌^◌, false, length}
use Rattle.std.specs.Io.KnownBytes.{IsAtEnd, Keeps, prepend_known}
use Rattle.sip_files.specs.Counted.{Counts}
use Rattle.sip_stream.proofs.Reading.{IsSearched}
use Rattle.sip_stream.proofs.round_reader.RoundReader.next_lines.Given as goal

abbrev pub invariant-loop : goal.invariant-loop
invariant-loop g l =
    Keeps (prepend_known l.fn.self.text.items (g.R.CountedRead.remaining l.fn.reader))
    (prepend_known l.self.text.items (g.R.CountedRead.remaining l.reader))
    × (l.has_more ≡ false → IsAtEnd (g.R.CountedRead.remaining l.reader))
    × Counts (g.R.CountedRead.failures l.fn.reader) (g.R.CountedRead.failures l.reader) 0
    × IsSearched l.searched l.self.text.items
    × (l.searched ≤ 2 ^ 26 + 1)
    × (length l.self.text.items ≤ length l.fn.self.text.items + l.searched + 4102)
