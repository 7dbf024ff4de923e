-- The loop of `trimmed_end`: trimming what is left gives what trimming the text gives.
use Rattle.std.proofs.Common.{◌≡◌, length}
use Rattle.sip_text.specs.Trimmed as trims
use Rattle.sip_text.proofs.trim.trimmed_end.Given as goal

abbrev pub invariant-loop-rest : goal.invariant-loop-rest
invariant-loop-rest l = trims.trimmed_end l.rest ≡ trims.trimmed_end l.text

abbrev pub decreases-loop-rest : goal.decreases-loop-rest
decreases-loop-rest l = length l.rest
