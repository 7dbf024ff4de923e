-- `read_all` counts its reads: at most one for each byte that a file may have, and two more.
use Rattle.std.proofs.Common.{arith}
use Rattle.sip_files.proofs.Streams.{counts_within}
use Rattle.sip_files.proofs.file_replay.read_all.Goals as goal
use Rattle.sip_files.proofs.file_replay.read_all.Goals.{else-loop-test, then-loop-test+in-Ok+in_ok-extend_from_slice-in-Ok+then-len-gt-MAX_EVENTS}

pub returns-in-Ok-eq0-clause-reads : goal.returns-in-Ok-eq0-clause-reads
returns-in-Ok-eq0-clause-reads g c =
    counts_within _ _ _ c.loop.counter _ (omega arith) c.loop.invariant.counted
    c.read_once.ensures.counted

pub returns-in_err-extend_from_slice-in-Ok-clause-reads :
    goal.returns-in_err-extend_from_slice-in-Ok-clause-reads
returns-in_err-extend_from_slice-in-Ok-clause-reads g c =
    counts_within _ _ _ c.loop.counter _ (omega arith) c.loop.invariant.counted
    c.read_once.ensures.counted

pub returns-in-Err-clause-reads : goal.returns-in-Err-clause-reads
returns-in-Err-clause-reads g c =
    counts_within _ _ _ c.loop.counter _ (omega arith) c.loop.invariant.counted
    c.read_once.ensures.counted

pub returns-clause-reads : goal.returns-clause-reads
returns-clause-reads g c =
    elim c.loop-test.branch [
      | else-loop-test w ↦
          rw w.reader-is (c.loop.counter, omega arith, c.loop.invariant.counted)
      | then-loop-test+in-Ok+in_ok-extend_from_slice-in-Ok+then-len-gt-MAX_EVENTS w ↦
          rw w.reader-is (counts_within _ _ _ c.loop.counter _ (omega arith)
          c.loop.invariant.counted w.read_once.ensures.counted)
    ]
