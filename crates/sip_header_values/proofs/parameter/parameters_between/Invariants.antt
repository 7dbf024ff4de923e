-- The loop of `parameters_between`: the parameters so far, and then those of the rest, are those of
-- the text.
use Rattle.std.proofs.Common.{◌≡◌, length}
use Rattle.sip_text.specs.Forms.{split}
use Rattle.sip_text.specs.declared.separator.Separator.TheVariants.{Byte}
use Rattle.sip_text.proofs.Loops.{onto}
use Rattle.sip_grammar.specs.ParameterValues.{one_parameter}
use Rattle.sip_header_values.proofs.parameter.parameters_between.Given as goal

abbrev pub invariant-loop-parameter : goal.invariant-loop-parameter
invariant-loop-parameter l =
    onto l.parameters (split (Byte 59) one_parameter l.rest)
    ≡ split (Byte 59) one_parameter l.text

abbrev pub decreases-loop-parameter : goal.decreases-loop-parameter
decreases-loop-parameter l = length l.rest
