-- Lines say one list of rounds, since a session does.
use Rattle.sip_files.specs.declared.version.FileKind.TheVariants as file_kind
use Rattle.sip_files.proofs.OneFile.{one_file}
use Rattle.sip_files.specs.Rounds.{session_with}
use Rattle.sip_files.proofs.laws.one_meaning_of_lines.Goals as goal

pub returns : goal.returns
returns c lines rounds others one other =
    (one_file file_kind.Session (session_with lines) one.config other.config rounds others
    one.spelled other.spelled).1
