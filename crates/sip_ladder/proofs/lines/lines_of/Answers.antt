-- `lines_of`: each turn of the loop adds the lines of one more round.
use Rattle.std.proofs.Common.{List, ap, map}
use Rattle.std.specs.Global.{Vec}
use Rattle.sip_round.specs.declared.output.Output.{Output}
use Rattle.sip_ladder.proofs.Shown.{one_round}
use Rattle.sip_ladder.proofs.lines.lines_of.Goals as goal

abbrev items_of : List (Vec Output) → List (List Output)
items_of answers = map (λ outputs. outputs.items) answers

pub loop-round-preserved : goal.loop-round-preserved
loop-round-preserved c =
    one_round _ c.loop-round.rounds_left.now c.in-Some.rounds_after.now c.in-Some.round.now
    (items_of c.loop-round.answers_left.now) (items_of c.in-Some-split_first.answers_after.now)
    c.in-Some-split_first.outputs.now.items c.loop-round.lines.items _
    c.loop-round.before.names.keys
    _ c.loop-round.invariant c.in-Some.ensures.cases.0
    (ap items_of c.in-Some-split_first.ensures.cases.0)
    (rw c.as_slice.ensures.value at c.in_ok-add_round.ensures)
