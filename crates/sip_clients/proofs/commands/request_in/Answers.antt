-- `request_in` refuses a method that the user can't send in the dialog, and otherwise sends the
-- request if the dialog doesn't refuse it.
use Rattle.std.proofs.Common.{◌≡◌, sym, ap, subst}
use Rattle.std.specs.Prelude.{IfOk, OnOk}
use Rattle.sip_clients.specs.SendOutcome.{Outcome}
use Rattle.sip_clients.proofs.Served.{bad_request, good_request}
use Rattle.sip_clients.proofs.commands.request_in.Goals as goal

pub returns-then-is_bad_in-clause-outcome : goal.returns-then-is_bad_in-clause-outcome
returns-then-is_bad_in-clause-outcome c =
    let is = bad_request c.args.event c.args.method c.args.content c.args.held.now
    (sym c.if-is_bad_in.ensures) in
    ap (λ (outcome : Outcome). outcome.1) (sym is)

pub returns-then-is_bad_in-clause-held : goal.returns-then-is_bad_in-clause-held
returns-then-is_bad_in-clause-held c =
    let is = bad_request c.args.event c.args.method c.args.content c.args.held.now
    (sym c.if-is_bad_in.ensures) in
    ap (λ (outcome : Outcome). outcome.0) (sym is)

pub returns-clause-outcome : goal.returns-clause-outcome
returns-clause-outcome c =
    let is = good_request c.args.event c.args.method c.args.content c.args.held.now
    (sym c.if-is_bad_in.ensures) in
    subst (λ (made : Outcome). IfOk c.request.result (λ outcome. outcome ≡ made.1)) (sym is)
    c.request.ensures.outcome

pub returns-clause-held : goal.returns-clause-held
returns-clause-held c =
    let is = good_request c.args.event c.args.method c.args.content c.args.held.now
    (sym c.if-is_bad_in.ensures) in
    subst (λ (outcome : Outcome). OnOk c.request.result (c.request.new.held ≡ outcome.0)) (sym is)
    c.request.ensures.held
