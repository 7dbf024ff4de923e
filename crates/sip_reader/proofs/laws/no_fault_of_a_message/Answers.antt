-- The law `no_fault_of_a_message`: a text that has a fault spells no message.
use Rattle.sip_reader.proofs.FirstFaults.{no_fault}
use Rattle.sip_reader.proofs.laws.no_fault_of_a_message.Goals as goal

pub returns : goal.returns
returns c text m fault spelled is = no_fault text m fault spelled is
