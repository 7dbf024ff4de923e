-- `add_outputs` adds a line for each output.
use Rattle.std.proofs.Common.{rules}
use Rattle.std.proofs.lemmas.List.{take_all}
use Rattle.sip_ladder.specs.Shapes.{IsGiven}
use Rattle.sip_ladder.proofs.Shown.{one_more}
use Rattle.sip_ladder.proofs.lines.add_outputs.Goals as goal

pub loop-output-preserved : goal.loop-output-preserved
loop-output-preserved c =
    one_more (IsGiven c.args.moment) _ c.loop-output.output-index c.output-item.result _ _ _
    c.in_ok-line.line _ _ _ c.loop-output-test.true c.output-item.is c.loop-output.invariant
    (search rules) c.in_ok-line.ensures.shape c.in_ok-line.ensures.names

pub returns : goal.returns
returns c = rw (take_all c.loop-output.output-index c.args.outputs.now c.loop-output-test.false) at
    c.loop-output.invariant
