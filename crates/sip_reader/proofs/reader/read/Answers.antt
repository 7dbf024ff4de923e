-- `read` gives the message that the text spells, or the first fault, unless memory runs out.
use Rattle.sip_reader.proofs.Answering.{is_found, is_only, is_fault}
use Rattle.sip_reader.proofs.reader.read.Goals as goal

pub returns-clause-found : goal.returns-clause-found
returns-clause-found c = is_found c.args.text.now c.read_text.result c.read_text.ensures

pub returns-clause-only : goal.returns-clause-only
returns-clause-only c = is_only c.args.text.now c.read_text.result c.read_text.ensures

pub returns-clause-fault : goal.returns-clause-fault
returns-clause-fault c = is_fault c.args.text.now c.read_text.result c.read_text.ensures
