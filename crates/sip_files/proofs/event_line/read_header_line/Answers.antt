-- `read_header_line` gives the header of a line, or None if it isn't a header line.
use Rattle.sip_files.proofs.WrittenLaws.{says_header, says_no_header, says_nothing_in_session}
use Rattle.sip_files.proofs.event_line.read_header_line.Goals as goal

pub returns-in-Some-clause-some : goal.returns-in-Some-clause-some
returns-in-Some-clause-some c =
    rw c.header_of.ensures (says_header c.args.line.now c.in-Some.said
    (rw c.in-Some.is at c.in_ok-said.ensures))

pub returns-in-Some-clause-none : goal.returns-in-Some-clause-none
returns-in-Some-clause-none c =
    rw c.header_of.ensures (says_no_header c.args.line.now c.in-Some.said
    (rw c.in-Some.is at c.in_ok-said.ensures))

pub returns-in-None-clause-none : goal.returns-in-None-clause-none
returns-in-None-clause-none c =
    says_nothing_in_session c.args.line.now (rw c.in-None.is at c.in_ok-said.ensures)
