-- `push_rows` writes the row of each line.
use Rattle.std.proofs.lemmas.List.{take_all}
use Rattle.sip_ladder.specs.Row.{row_line}
use Rattle.sip_files.proofs.Pushed.{one_more, taken}
use Rattle.sip_ladder.proofs.picture.push_rows.Goals as goal

pub loop-line-preserved : goal.loop-line-preserved
loop-line-preserved c =
    let more = taken c.args.lines.now c.loop-line.line-index c.line-item.result
    c.loop-line-test.true c.line-item.is in
    one_more (row_line c.args.columns.now) _ _ _ _ _ _ more c.loop-line.invariant
    c.in_ok-push_row.ensures

pub returns : goal.returns
returns c = rw (take_all c.loop-line.line-index c.args.lines.now c.loop-line-test.false) at
    c.loop-line.invariant
