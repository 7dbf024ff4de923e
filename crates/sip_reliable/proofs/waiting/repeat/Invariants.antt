-- The loop of `repeat`: the due responses before the index are sent again, the others are as
-- before.
use Rattle.std.proofs.Common.{◌≡◌, ◌++◌, map, take, drop}
use Rattle.sip_reliable.specs.Provisional.{after_repeat}
use Rattle.sip_reliable.proofs.waiting.repeat.Given as goal

abbrev pub invariant-loop-one : goal.invariant-loop-one
invariant-loop-one l = l.waiting ≡ map (after_repeat l.now) (take l.one-index l.initial.waiting)
    ++ drop l.one-index l.initial.waiting
