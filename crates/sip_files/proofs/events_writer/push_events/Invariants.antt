-- The loop of `push_events`: the lines of the events so far are written.
use Rattle.std.proofs.Common.{◌≡◌, ◌++◌, take}
use Rattle.std.specs.List.{flat_map}
use Rattle.sip_files.specs.Written.{event_lines}
use Rattle.sip_files.proofs.events_writer.push_events.Given as goal

abbrev pub invariant-loop-event : goal.invariant-loop-event
invariant-loop-event l =
    l.file.items ≡ l.fn.file.items ++ flat_map (event_lines l.kind) (take l.event-index l.events)
