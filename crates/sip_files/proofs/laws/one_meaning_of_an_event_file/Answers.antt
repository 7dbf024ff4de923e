-- The law `one_meaning_of_an_event_file`: a text spells one configuration and list of rounds.
use Rattle.sip_files.specs.declared.version.FileKind.TheVariants as file_kind
use Rattle.sip_files.proofs.OneFile.{one_file}
use Rattle.sip_files.proofs.laws.one_meaning_of_an_event_file.Goals as goal

pub returns : goal.returns
returns c = one_file file_kind.Events
