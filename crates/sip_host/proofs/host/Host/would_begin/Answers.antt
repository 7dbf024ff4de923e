-- `Host::would_begin` asks its agent about the message that the datagram spells.
use Rattle.sip_host.proofs.WouldBegin.{fault_tells, read_tells}
use Rattle.sip_host.proofs.host.Host.would_begin.Goals as goal

pub returns-in-Ok : goal.returns-in-Ok
returns-in-Ok c =
    read_tells c.args.bytes.now c.args.self.now c.in-Ok.message c.would_begin.result
    c.in-Ok.ensures.found c.in-Ok.ensures.only c.would_begin.ensures.broken
    c.would_begin.ensures.begins

pub returns-in-Err : goal.returns-in-Err
returns-in-Err c =
    fault_tells c.args.bytes.now c.args.self.now c.in-Err.fault c.begins_nothing.result
    c.in-Err.ensures.only c.begins_nothing.ensures
