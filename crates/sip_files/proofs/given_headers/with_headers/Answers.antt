-- `with_headers` gives the line of a command the header lines before it.
use Rattle.std.proofs.Common.{rules, sym, ◌∙◌}
use Rattle.sip_files.proofs.GatheredHeaders.{headed_command}
use Rattle.sip_files.proofs.given_headers.with_headers.Goals as goal

pub returns-in-Some : goal.returns-in-Some
returns-in-Some c =
    let asked = c.in-Event-Command.command in
    sym (headed_command c.args.headers c.args.line asked c.in-Some.command
    (sym c.is_empty.ensures ∙ c.if-is_empty.false) (search rules)
    (sym c.in_ok-command-in-Event-Command.ensures ∙ c.in-Some.is))
