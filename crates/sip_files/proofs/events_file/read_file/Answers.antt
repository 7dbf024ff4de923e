-- `read_file` gives what the text spells, and the first fault that fits if it spells nothing.
use Rattle.std.proofs.Common.{arith}
use Rattle.std.proofs.lemmas.Result.{err_from_is_err_and}
use Rattle.sip_files.proofs.FileFaults.{found, version_only, version_tells, line_only, line_tells}
use Rattle.sip_files.proofs.OneFile.{only_draft}
use Rattle.sip_files.proofs.events_file.read_file.Goals as goal

pub returns-in_err-version-clause-only : goal.returns-in_err-version-clause-only
returns-in_err-version-clause-only c = λ config rounds s small.
    let p = err_from_is_err_and c.from_residual.result c.from_residual.ensures.1 in
    rw (p.1, p.2) (version_only c.args.kind c.in_err-version.field-0.0 c.args.text.now config rounds
    c.in_err-version.ensures s)

pub returns-in_err-version-clause-fault : goal.returns-in_err-version-clause-fault
returns-in_err-version-clause-fault c =
    let p = err_from_is_err_and c.from_residual.result c.from_residual.ensures.1 in
    rw (p.1, p.2) (version_tells c.args.kind c.in_err-version.field-0.0 c.args.text.now
    (omega arith) c.in_err-version.ensures)

pub returns-in_err-draft-clause-only : goal.returns-in_err-draft-clause-only
returns-in_err-draft-clause-only c = λ config rounds s small.
    let p = err_from_is_err_and c.from_residual-in_err-draft.result
    c.from_residual-in_err-draft.ensures.1 in
    rw (p.1, p.2) (line_only c.args.kind c.in_ok-version.version c.in_err-draft.field-0.0
    c.args.text.now c.in_ok-version.after.now config rounds (c.in_ok-version.ensures).1
    c.in_err-draft.ensures s)

pub returns-in_err-draft-clause-fault : goal.returns-in_err-draft-clause-fault
returns-in_err-draft-clause-fault c =
    let p = err_from_is_err_and c.from_residual-in_err-draft.result
    c.from_residual-in_err-draft.ensures.1 in
    rw (p.1, p.2) (line_tells c.args.kind c.in_ok-version.version c.in_err-draft.field-0.0
    c.args.text.now c.in_ok-version.after.now (omega arith) (c.in_ok-version.ensures).0
    (c.in_ok-version.ensures).1 c.in_err-draft.ensures)

pub returns-clause-found : goal.returns-clause-found
returns-clause-found c =
    found c.args.kind c.in_ok-version.version c.args.text.now c.in_ok-version.after.now
    c.in_ok-draft.draft (c.in_ok-version.ensures).0 (c.in_ok-version.ensures).1
    c.in_ok-draft.ensures

pub returns-clause-only : goal.returns-clause-only
returns-clause-only c = λ config rounds s small.
    let same = only_draft c.args.kind c.in_ok-version.version config rounds c.args.text.now
    c.in_ok-version.after.now c.in_ok-draft.draft s (c.in_ok-version.ensures).1
    c.in_ok-draft.ensures in
    (same.configured, same.all_rounds)
