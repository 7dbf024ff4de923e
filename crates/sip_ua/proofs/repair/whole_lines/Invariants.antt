-- The loop of `whole_lines`: the whole lines of what is left are those of the text.
use Rattle.std.proofs.Common.{◌≡◌, length}
use Rattle.sip_ua.specs.Repair.{whole_lines}
use Rattle.sip_ua.proofs.repair.whole_lines.Given as goal

abbrev pub invariant-loop-rest : goal.invariant-loop-rest
invariant-loop-rest l = whole_lines l.rest ≡ whole_lines l.text

abbrev pub decreases-loop-rest : goal.decreases-loop-rest
decreases-loop-rest l = length l.rest
