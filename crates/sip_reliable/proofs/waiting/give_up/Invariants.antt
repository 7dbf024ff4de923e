-- The loop of `give_up`: the responses before the index are given up, the others are as before.
use Rattle.std.proofs.Common.{◌≡◌, ◌++◌, map, take, drop}
use Rattle.sip_reliable.specs.Provisional.{given_up}
use Rattle.sip_reliable.proofs.waiting.give_up.Given as goal

abbrev pub invariant-loop-one : goal.invariant-loop-one
invariant-loop-one l = l.waiting ≡ map given_up (take l.one-index l.initial.waiting)
    ++ drop l.one-index l.initial.waiting
