-- The loop of `values_in`: the values so far, and then those of the rest, are those of the text.
use Rattle.std.proofs.Common.{length}
use Rattle.sip_reader.specs.Head.{value_under}
use Rattle.sip_reader.specs.Steps.ReadHead.{values_at, whole_lines_at}
use Rattle.sip_reader.proofs.HeadValues.{AreWith}
use Rattle.sip_reader.proofs.head.values_in.Given as goal

abbrev pub invariant-loop-values : goal.invariant-loop-values
invariant-loop-values l =
    AreWith (value_under l.name) l.rest l.values (values_at l.name (whole_lines_at l.text))

abbrev pub decreases-loop-values : goal.decreases-loop-values
decreases-loop-values l = length l.rest
