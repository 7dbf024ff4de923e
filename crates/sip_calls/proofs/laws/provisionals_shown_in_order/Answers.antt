-- The law `provisionals_shown_in_order`: the RSeqs that are shown are in order, consecutive, and
-- none is shown twice.
use Rattle.sip_calls.proofs.ShownInOrder.{shown_consecutive, shown_in_order, shown_once}
use Rattle.sip_calls.proofs.laws.provisionals_shown_in_order.Goals as goal

pub returns-clause-in_order : goal.returns-clause-in_order
returns-clause-in_order c = shown_in_order

pub returns-clause-consecutive : goal.returns-clause-consecutive
returns-clause-consecutive c = shown_consecutive

pub returns-clause-once : goal.returns-clause-once
returns-clause-once c = shown_once
