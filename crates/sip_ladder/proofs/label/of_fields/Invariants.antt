-- The loop of `of_fields`: the label so far, with that of the rest, is the label of the line.
use Rattle.std.proofs.Common.{◌≡◌, ◌++◌, length}
use Rattle.sip_ladder.specs.Label.{fields_label}
use Rattle.sip_ladder.proofs.label.of_fields.Given as goal

abbrev pub invariant-loop-field : goal.invariant-loop-field
invariant-loop-field l = fields_label l.line ≡ l.label.items ++ fields_label l.rest

abbrev pub decreases-loop-field : goal.decreases-loop-field
decreases-loop-field l = length l.rest
