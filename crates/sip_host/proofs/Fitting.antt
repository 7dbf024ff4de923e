-- A command that is made of fields fits a session.
use Rattle.std.proofs.Common.{◌≡◌, ◌≤◌, ℕ, true, List, Some, refl, sym, ap, ◌∙◌, arith}
use Rattle.std.proofs.lemmas.Bool.Decides.{nat_tests}
use Rattle.std.specs.Prelude.{Ok}
use Rattle.sip_files.proofs.SessionFits.{IsBare, given_fits}
use Rattle.sip_files.specs.Given.{with_given}
use Rattle.sip_files.specs.Written.{FitsSession}
use Rattle.sip_files.specs.declared.given_header.GivenHeader.{GivenHeader}
use Rattle.sip_round.specs.declared.round.Event.TheVariants.{Command}
use Rattle.sip_user.specs.declared.command.UserCommand.{UserCommand}
use Rattle.sip_host.specs.Asking.{AllKept, Makes, command_of, is_status, rules_of}
use Rattle.sip_host.specs.declared.fields.CommandFields.{CommandFields}
use Rattle.sip_host.specs.declared.fields.CommandFields.TheVariants as given
use Rattle.sip_host.proofs.Commands.{none_bad}
use Rattle.sip_host.proofs.KeptRules.{kept_all}

low_status : (status : ℕ) → is_status status ≡ true → status ≤ 999
low_status status is = grind (arith, nat_tests)

bare : (fields : CommandFields) → AllKept (rules_of (command_of fields))
    → IsBare (command_of fields)
bare (given.Invite f) kept = (tt, refl)
bare (given.Plain f) kept = (tt, refl)
bare (given.Request f) kept = (tt, refl)
bare (given.Respond f) kept = (low_status f.status (kept.1).0, refl)
bare (given.Ack f) kept = (tt, refl)
bare (given.Prack f) kept = (tt, refl)
bare (given.Cancel f) kept = (tt, refl)
bare (given.AbandonRequest f) kept = (tt, refl)
bare (given.AbandonDialog f) kept = (tt, refl)

pub command_fits : (fields : CommandFields) (made whole : UserCommand)
    (headers : List GivenHeader) → Makes (command_of fields) (Ok made)
    → with_given headers made ≡ Some whole → FitsSession (Command whole)
command_fits fields made whole headers makes e =
    given_fits headers (command_of fields) whole
    (bare fields (kept_all (rules_of (command_of fields)) (none_bad made _ makes.bad)))
    (ap (with_given headers) (sym makes.made) ∙ e)
