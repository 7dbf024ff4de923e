-- `ServerSide::request` takes a request by the rules.
use Rattle.std.proofs.Common.{◌≡◌, Bool, true, false, ap, subst, sym, ◌∙◌}
use Rattle.std.specs.Prelude.{IfOk, if◌then◌else◌}
use Rattle.sip_held_dialogs.specs.Requests.{is_cancel}
use Rattle.sip_served.specs.Arrival.{request_taken}
use Rattle.sip_served.specs.Cancel.{cancel_taken}
use Rattle.sip_served.specs.State.{ServedTaken}
use Rattle.sip_served.proofs.ArrivalRules.{arrival_same}
use Rattle.sip_served.proofs.server_side.ServerSide.request.Goals as goal

pub returns-then-is_cancel : goal.returns-then-is_cancel
returns-then-is_cancel c =
    let state = c.args.self.now in
    let arrival = c.args.arrival in
    subst (λ (taken : ServedTaken). IfOk c.cancel.result
    (λ outs. (c.cancel.new.self, outs.items) ≡ taken))
    (ap (λ (is : Bool). if is then cancel_taken state c.args.call_id arrival c.args.now
    else request_taken state c.args.call_id arrival)
    (sym c.if-is_cancel.true ∙ c.is_cancel.ensures ∙ ap is_cancel c.get.ensures)
    ∙ arrival_same state c.args.call_id arrival c.args.now)
    c.cancel.ensures

pub returns-else-is_cancel : goal.returns-else-is_cancel
returns-else-is_cancel c =
    let state = c.args.self.now in
    let arrival = c.args.arrival in
    subst (λ (taken : ServedTaken). IfOk c.take_request.result
    (λ outs. (c.take_request.new.self, outs.items) ≡ taken))
    (ap (λ (is : Bool). if is then cancel_taken state c.args.call_id arrival c.args.now
    else request_taken state c.args.call_id arrival)
    (sym c.if-is_cancel.false ∙ c.is_cancel.ensures ∙ ap is_cancel c.get.ensures)
    ∙ arrival_same state c.args.call_id arrival c.args.now)
    c.take_request.ensures
