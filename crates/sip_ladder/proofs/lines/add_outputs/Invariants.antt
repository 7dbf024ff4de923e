-- The loop of `add_outputs`: the lines of the outputs so far were added.
use Rattle.std.proofs.Common.{map, take}
use Rattle.sip_ladder.specs.Shapes.{IsGiven, Shows}
use Rattle.sip_ladder.proofs.lines.add_outputs.Given as goal

abbrev pub invariant-loop-output : goal.invariant-loop-output
invariant-loop-output l =
    Shows (map (IsGiven l.moment) (take l.output-index l.outputs)) l.fn.lines.items l.lines.items
    l.fn.before.names.keys l.before.names.keys
