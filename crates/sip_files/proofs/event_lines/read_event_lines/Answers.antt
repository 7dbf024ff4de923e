-- `read_event_lines` gives the event that the lines spell, or None if they spell no single event.
use Rattle.std.proofs.Common.{rules}
use Rattle.sip_files.proofs.OneEvent.{event_found, no_event_found, none_unread, some_unread}
use Rattle.sip_files.specs.EventLines.{SpellsLines}
use Rattle.sip_files.specs.declared.events_fault.EventsFault.TheVariants.{NoMemory}
use Rattle.sip_files.proofs.event_lines.read_event_lines.Goals as goal

pub returns-in-Ok-clause-some : goal.returns-in-Ok-clause-some
returns-in-Ok-clause-some c =
    event_found c.args.lines.now _ (search rules) _ _ c.in-Ok.ensures.found c.in-Ok.ensures.size
    c.only_event.result (search rules)

pub returns-in-Ok-clause-none : goal.returns-in-Ok-clause-none
returns-in-Ok-clause-none c =
    no_event_found c.args.lines.now _ (search rules) _ _ c.in-Ok.ensures.only c.only_event.result
    (search rules)

pub returns-clause-some : goal.returns-clause-some
returns-clause-some c =
    some_unread (SpellsLines c.args.lines.now) c.in-Err.fault NoMemory c.unread.result
    c.unread.ensures

pub returns-clause-none : goal.returns-clause-none
returns-clause-none c =
    none_unread c.args.lines.now _ (search rules) c.in-Err.fault NoMemory c.in-Err.ensures.only
    c.unread.result c.unread.ensures
