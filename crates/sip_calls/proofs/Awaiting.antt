-- For all inputs of a call: a held INVITE awaits its ACK exactly if the outputs say so.
use Rattle.std.specs.Prelude.{false}
use Rattle.sip_served.specs.Acknowledgment.{awaits_ack}
use Rattle.sip_served.specs.Awaiting.{awaits_by}
use Rattle.sip_served.proofs.Awaiting.{ack_told}
use Rattle.sip_calls.specs.Awaiting.{AwaitsAsTold}
use Rattle.sip_calls.proofs.Read.{read_as_told}

pub awaits_as_told : AwaitsAsTold
awaits_as_told = read_as_told false awaits_ack awaits_by ack_told
