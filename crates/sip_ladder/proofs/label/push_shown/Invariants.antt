-- The loop of `push_shown`: the bytes so far are shown.
use Rattle.std.proofs.Common.{◌≡◌, ◌++◌, take}
use Rattle.sip_ladder.specs.Label.{as_visible}
use Rattle.sip_ladder.proofs.label.push_shown.Given as goal

abbrev pub invariant-loop-byte : goal.invariant-loop-byte
invariant-loop-byte l = l.label.items ≡ l.fn.label.items ++ as_visible (take l.byte-index l.bytes)
