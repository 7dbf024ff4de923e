-- `push_lines` writes the line of each output.
use Rattle.std.proofs.lemmas.List.{take_all}
use Rattle.sip_files.specs.Outputs.{output_line}
use Rattle.sip_files.proofs.Pushed.{one_more, taken}
use Rattle.sip_files.proofs.outputs_file.push_lines.Goals as goal

pub loop-output-preserved : goal.loop-output-preserved
loop-output-preserved c =
    let more = taken c.args.outputs.now c.loop-output.output-index c.output-item.result
    c.loop-output-test.true c.output-item.is in
    one_more output_line _ _ _ _ _ _ more c.loop-output.invariant c.in_ok-push_line.ensures

pub returns : goal.returns
returns c = rw (take_all c.loop-output.output-index c.args.outputs.now c.loop-output-test.false) at
    c.loop-output.invariant
