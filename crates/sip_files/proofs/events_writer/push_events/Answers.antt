-- `push_events` writes the lines of all events.
use Rattle.std.proofs.lemmas.List.{take_all}
use Rattle.sip_files.specs.Written.{event_lines}
use Rattle.sip_files.proofs.Pushed.{one_more, taken}
use Rattle.sip_files.proofs.events_writer.push_events.Goals as goal

pub loop-event-preserved : goal.loop-event-preserved
loop-event-preserved c =
    let more = taken c.args.events.now c.loop-event.event-index c.event-item.result
    c.loop-event-test.true c.event-item.is in
    one_more (event_lines c.args.kind) _ _ _ _ _ _ more c.loop-event.invariant
    c.in_ok-push_lines.ensures

pub returns : goal.returns
returns c = rw (take_all c.loop-event.event-index c.args.events.now c.loop-event-test.false) at
    c.loop-event.invariant
