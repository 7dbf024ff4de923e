-- The loop of `push_peers`: the lines of the peers so far are written.
use Rattle.std.proofs.Common.{◌≡◌, ◌++◌, take}
use Rattle.sip_ladder.specs.Head.{peer_lines}
use Rattle.sip_ladder.proofs.head.push_peers.Given as goal

abbrev pub invariant-loop-index : goal.invariant-loop-index
invariant-loop-index l = l.text.items ≡ l.fn.text.items ++ peer_lines (take l.index l.peers)
