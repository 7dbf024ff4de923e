-- The law `what_is_written_is_an_event_file`.
use Rattle.sip_files.proofs.WrittenLaws.{written_is_spelled}
use Rattle.sip_files.proofs.laws.what_is_written_is_an_event_file.Goals as goal

pub returns : goal.returns
returns c = written_is_spelled
