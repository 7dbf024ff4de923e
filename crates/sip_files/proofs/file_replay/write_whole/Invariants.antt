-- The loop of `write_whole`: the bytes written so far, and those that are left.
use Rattle.std.proofs.Common.{length}
use Rattle.sip_files.proofs.Streams.{WrittenSoFar}
use Rattle.sip_files.proofs.file_replay.write_whole.Given as goal

abbrev pub invariant-loop-left : goal.invariant-loop-left
invariant-loop-left g l =
    WrittenSoFar (g.W.CountedWrite.contents l.fn.writer) (g.W.CountedWrite.contents l.writer)
    (g.W.CountedWrite.failures l.fn.writer) (g.W.CountedWrite.failures l.writer) l.fn.bytes l.left

-- each write takes at least one byte
abbrev pub decreases-loop-left : goal.decreases-loop-left
decreases-loop-left g l = length l.left
