-- `with_given` gives the command its headers, if there are any and they may stand there.
use Rattle.std.proofs.Common.{sym, ◌∙◌}
use Rattle.sip_files.proofs.GatheredHeaders.{given_by, not_given}
use Rattle.sip_files.proofs.given_headers.with_given.Goals as goal

pub returns : goal.returns
returns c =
    given_by c.command_with.result c.args.headers _ c.args.command
    (sym c.is_empty.ensures ∙ c.if-is_empty.false) c.in_ok-headers.ensures
    (sym c.contacts_fit.ensures ∙ c.if-not-contacts_fit.false) c.command_with.ensures

pub returns-then-not-contacts_fit : goal.returns-then-not-contacts_fit
returns-then-not-contacts_fit c =
    not_given c.args.headers _ c.args.command
    (sym c.is_empty.ensures ∙ c.if-is_empty.false) c.in_ok-headers.ensures
    (sym c.contacts_fit.ensures ∙ c.if-not-contacts_fit.true)
