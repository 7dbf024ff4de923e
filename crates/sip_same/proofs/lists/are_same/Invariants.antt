-- The lists are the same up to the place.
use Rattle.std.proofs.Common.{◌≡◌, take}
use Rattle.sip_same.proofs.lists.are_same.Given as goal

abbrev pub invariant-loop-place : goal.invariant-loop-place
invariant-loop-place g l = take l.place l.values ≡ take l.place l.others
