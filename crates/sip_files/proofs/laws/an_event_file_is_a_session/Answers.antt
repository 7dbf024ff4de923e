-- The law `an_event_file_is_a_session`: so is each event file, and so are lines without headers.
use Rattle.sip_files.proofs.SessionLaws.{event_file_session, without_headers}
use Rattle.sip_files.proofs.laws.an_event_file_is_a_session.Goals as goal

pub returns-clause-session : goal.returns-clause-session
returns-clause-session c = event_file_session

pub returns-clause-without_headers : goal.returns-clause-without_headers
returns-clause-without_headers c = without_headers
