-- `add_events` adds a line for each event.
use Rattle.std.proofs.Common.{rules}
use Rattle.std.proofs.lemmas.List.{take_all}
use Rattle.sip_ladder.specs.Shapes.{Comes}
use Rattle.sip_ladder.proofs.Shown.{one_more}
use Rattle.sip_ladder.proofs.lines.add_events.Goals as goal

pub loop-event-preserved : goal.loop-event-preserved
loop-event-preserved c =
    one_more (Comes c.args.moment) _ c.loop-event.event-index c.event-item.result _ _ _
    c.in_ok-line.line _ _ _ c.loop-event-test.true c.event-item.is c.loop-event.invariant
    (search rules) c.in_ok-line.ensures.shape c.in_ok-line.ensures.names

pub returns : goal.returns
returns c = rw (take_all c.loop-event.event-index c.args.events.now c.loop-event-test.false) at
    c.loop-event.invariant
