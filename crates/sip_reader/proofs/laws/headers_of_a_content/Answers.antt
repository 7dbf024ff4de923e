-- The law `headers_of_a_content`: the headers of a text that was written for a message with a
-- content.
use Rattle.sip_reader.proofs.HeadContents.{contacts_written, once_written, others_written, require_written, supported_written}
use Rattle.sip_reader.proofs.laws.headers_of_a_content.Goals as goal

pub returns-clause-others : goal.returns-clause-others
returns-clause-others c = others_written

pub returns-clause-contacts : goal.returns-clause-contacts
returns-clause-contacts c = contacts_written

pub returns-clause-require : goal.returns-clause-require
returns-clause-require c = require_written

pub returns-clause-supported : goal.returns-clause-supported
returns-clause-supported c = supported_written

pub returns-clause-once : goal.returns-clause-once
returns-clause-once c = once_written
