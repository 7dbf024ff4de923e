-- The loop of `add_events`: the lines of the events so far were added.
use Rattle.std.proofs.Common.{map, take}
use Rattle.sip_ladder.specs.Shapes.{Comes, Shows}
use Rattle.sip_ladder.proofs.lines.add_events.Given as goal

abbrev pub invariant-loop-event : goal.invariant-loop-event
invariant-loop-event l =
    Shows (map (Comes l.moment) (take l.event-index l.events)) l.fn.lines.items l.lines.items
    l.fn.before.names.keys l.before.names.keys
