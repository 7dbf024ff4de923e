-- The law `what_is_written_is_a_session`.
use Rattle.sip_files.proofs.WrittenSessions.{session_is_spelled}
use Rattle.sip_files.proofs.laws.what_is_written_is_a_session.Goals as goal

pub returns : goal.returns
returns c = session_is_spelled
