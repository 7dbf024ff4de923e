-- `write_whole`: each turn of the loop writes the front of what is left.
use Rattle.std.proofs.Common.{◌<◌, arith}
use Rattle.sip_files.proofs.Streams.{took_some, written_more}
use Rattle.sip_files.proofs.file_replay.write_whole.Goals as goal

pub loop-left-preserved : goal.loop-left-preserved
loop-left-preserved g c =
    let some : 0 < c.in-Ok.count = omega arith in
    written_more _ _ _ _ _ _ _ c.loop-left.left.now c.in-Ok.count
    c.loop-left.invariant c.in-Ok.ensures.bytes
    (took_some _ _ c.write_once.result c.in-Ok.count c.in-Ok.is some c.write_once.ensures.failed)
