-- The law `what_is_read`: reading gives the message that the text spells, or the first fault.
use Rattle.sip_reader.specs.ReadMessage.{message_at}
use Rattle.sip_reader.proofs.Answering.{gives_itself, is_found}
use Rattle.sip_reader.proofs.FirstFaults.{first_fault}
use Rattle.sip_reader.proofs.Spelled.{spelled_again}
use Rattle.sip_reader.proofs.laws.what_is_read.Goals as goal

pub returns-clause-found : goal.returns-clause-found
returns-clause-found c text = is_found text (message_at text) (gives_itself (message_at text))

pub returns-clause-only : goal.returns-clause-only
returns-clause-only c = spelled_again

pub returns-clause-fault : goal.returns-clause-fault
returns-clause-fault c text = first_fault text
