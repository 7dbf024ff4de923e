-- `traits_in`: the traits of the message that the datagram spells.
use Rattle.sip_host.proofs.TraitsRead.{fault_tells, read_tells}
use Rattle.sip_host.proofs.request_traits.traits_in.Goals as goal

pub returns-in-Ok : goal.returns-in-Ok
returns-in-Ok c =
    read_tells c.args.bytes.now c.in-Ok.message c.traits_of.result c.in-Ok.ensures.found
    c.in-Ok.ensures.only c.traits_of.ensures

pub returns-in-Err : goal.returns-in-Err
returns-in-Err c =
    fault_tells c.args.bytes.now c.in-Err.fault c.no_traits.result c.in-Err.ensures.only
    c.no_traits.ensures
