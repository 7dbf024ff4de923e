-- The loop of `split_of`: the values so far, and then those of the rest, are those of the text.
use Rattle.std.proofs.Common.{◌≡◌, length}
use Rattle.sip_text.specs.Forms.{split}
use Rattle.sip_text.proofs.Loops.{onto}
use Rattle.sip_header_values.proofs.row.split_of.Given as goal

abbrev pub invariant-loop-piece : goal.invariant-loop-piece
invariant-loop-piece g l =
    onto l.values (split l.separator g.R.Row.reads l.rest) ≡ split l.separator g.R.Row.reads l.text

abbrev pub decreases-loop-piece : goal.decreases-loop-piece
decreases-loop-piece g l = length l.rest
