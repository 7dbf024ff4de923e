-- `read_command_line` gives the command of a line, or None if it isn't the line of a command.
use Rattle.sip_files.proofs.WrittenLaws.{no_command_in, says_command, says_no_command}
use Rattle.sip_files.proofs.event_line.read_command_line.Goals as goal

pub returns-in-Some-clause-some : goal.returns-in-Some-clause-some
returns-in-Some-clause-some c =
    rw c.command_in.ensures (says_command c.args.kind c.args.line.now c.in-Some.said
    (rw c.written.ensures at (rw c.in-Some.is at c.in_ok-said.ensures)))

pub returns-in-Some-clause-none : goal.returns-in-Some-clause-none
returns-in-Some-clause-none c =
    rw c.command_in.ensures (says_no_command c.args.kind c.args.line.now c.in-Some.said
    (rw c.written.ensures at (rw c.in-Some.is at c.in_ok-said.ensures)))

pub returns-in-None-clause-none : goal.returns-in-None-clause-none
returns-in-None-clause-none c =
    no_command_in c.args.kind c.args.line.now (rw c.written.ensures at (rw c.in-None.is at c.in_ok-said.ensures))
