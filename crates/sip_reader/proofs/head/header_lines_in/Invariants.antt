-- The loop of `header_lines_in`: the header lines so far, and then those of the rest, are those of
-- the text.
use Rattle.std.proofs.Common.{length}
use Rattle.std.specs.Option.{option_map}
use Rattle.sip_reader.specs.Head.{header_line}
use Rattle.sip_reader.specs.Steps.ReadHead.{header_lines_at, whole_lines_at}
use Rattle.sip_reader.proofs.HeadValues.{AreWith}
use Rattle.sip_reader.proofs.head.header_lines_in.Given as goal

abbrev pub invariant-loop-headers : goal.invariant-loop-headers
invariant-loop-headers l =
    AreWith (option_map header_line) l.rest l.headers (header_lines_at (whole_lines_at l.text))

abbrev pub decreases-loop-headers : goal.decreases-loop-headers
decreases-loop-headers l = length l.rest
