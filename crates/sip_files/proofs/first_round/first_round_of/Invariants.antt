-- The loop of `first_round_of`: the lines so far belong to the first round.
use Rattle.std.proofs.Common.{◌≡◌, ◌++◌, take, drop}
use Rattle.sip_files.specs.Rounds.{first_round}
use Rattle.sip_files.proofs.first_round.first_round_of.Given as goal

abbrev pub invariant-loop-index : goal.invariant-loop-index
invariant-loop-index l =
    first_round l.text ≡ take l.index l.text ++ first_round (drop l.index l.text)
