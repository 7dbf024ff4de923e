-- The loop of `ends_in_quote`: the rest of the text decides what the whole text does.
use Rattle.std.proofs.Common.{◌≡◌, false, length}
use Rattle.sip_text.specs.Quoted as quoted
use Rattle.sip_text.proofs.quoted.ends_in_quote.Given as goal

abbrev pub invariant-loop-rest : goal.invariant-loop-rest
invariant-loop-rest l = quoted.ends_in_quote l.escaped l.rest ≡ quoted.ends_in_quote false l.text

abbrev pub decreases-loop-rest : goal.decreases-loop-rest
decreases-loop-rest l = length l.rest
