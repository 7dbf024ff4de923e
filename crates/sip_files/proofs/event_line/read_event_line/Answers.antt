-- `read_event_line` gives the event of a line, or None if it isn't the line of an event.
use Rattle.sip_files.proofs.WrittenLaws.{says_event, says_no_event, says_nothing}
use Rattle.sip_files.proofs.event_line.read_event_line.Goals as goal

pub returns-in-Some-clause-some : goal.returns-in-Some-clause-some
returns-in-Some-clause-some c =
    rw c.event_in.ensures (says_event c.args.line.now c.in-Some.said
    (rw c.in-Some.is at c.in_ok-said.ensures))

pub returns-in-Some-clause-none : goal.returns-in-Some-clause-none
returns-in-Some-clause-none c =
    rw c.event_in.ensures (says_no_event c.args.line.now c.in-Some.said
    (rw c.in-Some.is at c.in_ok-said.ensures))

pub returns-in-None-clause-none : goal.returns-in-None-clause-none
returns-in-None-clause-none c =
    says_nothing c.args.line.now (rw c.in-None.is at c.in_ok-said.ensures)
