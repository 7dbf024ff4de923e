-- The loop of `push_others`: the lines of the headers so far are written.
use Rattle.std.proofs.Common.{◌≡◌, ◌++◌, take}
use Rattle.std.specs.List.{flat_map}
use Rattle.sip_message.specs.Written as written
use Rattle.sip_message.proofs.writer.push_others.Given as goal

abbrev pub invariant-loop-header : goal.invariant-loop-header
invariant-loop-header l =
    l.out.items ≡ l.fn.out.items ++ flat_map written.other_line (take l.header-index l.others)
