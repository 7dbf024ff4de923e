-- The loop of `push_numbers`: the numbers of the columns so far are written.
use Rattle.std.proofs.Common.{◌≡◌, ◌++◌}
use Rattle.std.specs.List.{flat_map, range_with_len}
use Rattle.sip_ladder.specs.Head.{column_name}
use Rattle.sip_ladder.proofs.head.push_numbers.Given as goal

abbrev pub invariant-loop-index : goal.invariant-loop-index
invariant-loop-index l =
    l.text.items ≡ l.fn.text.items ++ flat_map (column_name l.width) (range_with_len 1 l.index)
