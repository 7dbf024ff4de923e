-- `after_userinfo` gives what follows the last `@`, or what follows the scheme if there is no `@`.
use Rattle.std.proofs.Common.{sym, ◌∙◌}
use Rattle.sip_dialog.proofs.UriTexts.{without_at_sign, at_the_last}
use Rattle.sip_dialog.proofs.uri_text.after_userinfo.Goals as goal

pub returns-in-Some : goal.returns-in-Some
returns-in-Some c =
    at_the_last c.args.uri.now c.in-Some.place c.in-Some.ensures.0.high c.in-Some.ensures.0.after
    c.in-Some.ensures.1

pub returns-in-None : goal.returns-in-None
returns-in-None c = c.after_scheme.ensures ∙ sym (without_at_sign c.args.uri.now c.in-None.ensures)
