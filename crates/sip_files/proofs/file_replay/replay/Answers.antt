-- `replay`: with another fault than `Output` nothing was written, and a file has no fault of its
-- text.
use Rattle.std.proofs.Common.{◌≡◌, ◌≢◌, refl, rules, Result, Ok, Err, IfErr}
use Rattle.sip_files.specs.declared.file_replay.ReplayFault.{ReplayFault}
use Rattle.sip_files.specs.declared.file_replay.ReplayFault.TheVariants as replay_fault
use Rattle.sip_files.proofs.Streams.{only_memory_known}
use Rattle.sip_files.proofs.file_replay.replay.Goals as goal

-- a writer that nobody used is as it was
untouched : {T W : Type 0} (result : Result T ReplayFault) (writer : W)
    → IfErr result (λ fault. fault ≢ replay_fault.Output → writer ≡ writer)
untouched (Ok value) writer = tt
untouched (Err fault) writer = λ _. refl

pub returns-in_err-file-clause-unwritten : goal.returns-in_err-file-clause-unwritten
returns-in_err-file-clause-unwritten g c = untouched _ c.args.writer.now

pub returns-in_err-text-clause-only : goal.returns-in_err-text-clause-only
returns-in_err-text-clause-only g c =
    only_memory_known c.args.kind (g.R.CountedRead.remaining c.args.reader.now)
    c.from_residual.result
    (search rules)

pub returns-in_err-file-clause-only : goal.returns-in_err-file-clause-only
returns-in_err-file-clause-only g c =
    only_memory_known c.args.kind (g.R.CountedRead.remaining c.args.reader.now)
    c.from_residual-in_err-file.result (search rules)
