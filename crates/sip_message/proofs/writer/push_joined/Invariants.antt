-- The loop of `push_joined`: the first token and the others so far are written.
use Rattle.std.proofs.Common.{◌≡◌, ◌++◌, take}
use Rattle.sip_message.specs.Written as written
use Rattle.sip_message.proofs.writer.push_joined.Given as goal

abbrev pub invariant-loop-token : goal.invariant-loop-token
invariant-loop-token l =
    l.out.items ≡ l.fn.out.items ++ written.joined l.first (take l.token-index l.others)
