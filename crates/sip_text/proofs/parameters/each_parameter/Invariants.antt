-- The loop of `each_parameter`: the parameters so far and those of the rest are those of the text.
use Rattle.std.proofs.Common.{◌≡◌, length, map}
use Rattle.sip_text.specs.Forms.{split}
use Rattle.sip_text.specs.Parameter.{parameter_from}
use Rattle.sip_text.specs.Pieces.{parameter_now}
use Rattle.sip_text.specs.declared.separator.Separator.TheVariants.{Byte}
use Rattle.sip_text.proofs.Loops.{onto}
use Rattle.sip_text.proofs.parameters.each_parameter.Given as goal

abbrev pub invariant-loop-piece : goal.invariant-loop-piece
invariant-loop-piece l =
    onto (map parameter_now l.parameters.items) (split (Byte 59) parameter_from l.rest)
    ≡ split (Byte 59) parameter_from l.text

abbrev pub decreases-loop-piece : goal.decreases-loop-piece
decreases-loop-piece l = length l.rest
