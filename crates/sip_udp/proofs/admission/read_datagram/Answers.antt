-- `read_datagram` gives the message that the bytes spell, or a fault.
use Rattle.sip_reader.proofs.Exactly.{exactly}
use Rattle.sip_udp.proofs.admission.read_datagram.Goals as goal

pub returns : goal.returns
returns c = exactly c.args.bytes.now c.read.result c.read.ensures.found c.read.ensures.fault
