-- `ack`: if the dialog refuses, the ACK is refused for the same reason.
use Rattle.sip_clients.proofs.send_outcome.ack.Goals as goal

pub returns-in-Err : goal.returns-in-Err
returns-in-Err c = c.refused_by.ensures.outcome _ _ c.in-Err.ensures.fault
