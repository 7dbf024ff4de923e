-- The loop of `read_escaped`: the bytes so far, with those of the rest, are those of the field.
use Rattle.std.proofs.Common.{◌≡◌, length}
use Rattle.sip_files.specs.Steps.Form.{itself_in}
use Rattle.sip_files.specs.Steps.Reading.{bytes_at}
use Rattle.sip_files.proofs.Escapes.{onto}
use Rattle.sip_files.proofs.words.read_escaped.Given as goal

-- what was read so far and what is left give what the whole field gives
abbrev pub invariant-loop-left : goal.invariant-loop-left
invariant-loop-left l =
    onto l.bytes.items (bytes_at (itself_in l.form) l.left) ≡ bytes_at (itself_in l.form) l.field

abbrev pub decreases-loop-left : goal.decreases-loop-left
decreases-loop-left l = length l.left
