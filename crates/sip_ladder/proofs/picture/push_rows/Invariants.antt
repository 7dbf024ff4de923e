-- The loop of `push_rows`: the rows of the lines so far are written.
use Rattle.std.proofs.Common.{◌≡◌, ◌++◌, take}
use Rattle.std.specs.List.{flat_map}
use Rattle.sip_ladder.specs.Row.{row_line}
use Rattle.sip_ladder.proofs.picture.push_rows.Given as goal

abbrev pub invariant-loop-line : goal.invariant-loop-line
invariant-loop-line l =
    l.text.items ≡ l.fn.text.items ++ flat_map (row_line l.columns) (take l.line-index l.lines)
