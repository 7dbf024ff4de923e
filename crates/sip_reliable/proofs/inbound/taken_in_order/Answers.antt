-- The law `taken_in_order`: the numbers taken are consecutive, and none is taken twice.
use Rattle.sip_reliable.proofs.InOrder.{consecutive, once}
use Rattle.sip_reliable.proofs.inbound.taken_in_order.Goals as goal

pub returns-clause-consecutive : goal.returns-clause-consecutive
returns-clause-consecutive c = consecutive

pub returns-clause-once : goal.returns-clause-once
returns-clause-once c = once
