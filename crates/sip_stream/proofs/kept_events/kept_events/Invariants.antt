-- The loop of `kept_events`: in each place the event or nothing.
use Rattle.std.specs.List.{AllZip}
use Rattle.sip_stream.specs.Shorter.{StaysOrIsNothing}
use Rattle.sip_stream.proofs.kept_events.kept_events.Given as goal

abbrev pub invariant-loop-event : goal.invariant-loop-event
invariant-loop-event l =
    (goal.iterator-loop-event).can_next l.event-iterator
    × (goal.iterator-loop-event).is_finite l.event-iterator
    × AllZip StaysOrIsNothing l.yielded l.kept.items
