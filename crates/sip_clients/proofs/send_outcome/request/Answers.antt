-- `request`: a request is sent if the dialog doesn't refuse it. If it does, the request is refused
-- for the same reason, and the dialog doesn't change.
use Rattle.std.proofs.Common.{◌≡◌, ◌+◌, sym, ap, subst, ◌∙◌}
use Rattle.std.specs.Prelude.{Option, None, OnOk}
use Rattle.sip_dialog.specs.declared.fault.DialogFault.{DialogFault}
use Rattle.sip_dialog.specs.declared.dialog.Dialog.{Dialog}
use Rattle.sip_dialog.specs.Fault.{request_fault}
use Rattle.sip_dialog.specs.Request.{request_in}
use Rattle.sip_clients.specs.declared.send_outcome.OutgoingRequest.{OutgoingRequest}
use Rattle.sip_clients.specs.declared.send_outcome.SendOutcome.TheVariants.{Sent}
use Rattle.sip_clients.specs.Event.{branch_of}
use Rattle.sip_held_dialogs.specs.Dialogs.{lived}
use Rattle.sip_clients.specs.SendOutcome.{happens_by_sending, outcome_by, with_rack}
use Rattle.sip_clients.proofs.send_outcome.request.Goals as goal

sent_by : (found : Option DialogFault) (sending : OutgoingRequest) → found ≡ None
    → Sent sending ≡ outcome_by found sending
sent_by found sending none i = outcome_by (sym none i) sending

pub returns-in-Ok-clause-outcome : goal.returns-in-Ok-clause-outcome
returns-in-Ok-clause-outcome c =
    let held = c.args.held.now in
    let made : c.in-Ok.message ≡ request_in held.dialog c.args.method
    (held.dialog.local_cseq + 1) c.args.content (branch_of c.args.event) c.args.event.local =
    c.in-Ok.ensures.made ∙ ap (λ branch.
    request_in held.dialog c.args.method
    (held.dialog.local_cseq + 1) c.args.content branch c.args.event.local)
    c.in_ok-branch.ensures in
    let message = c.with_rack.ensures ∙ ap (with_rack c.args.rack) made in
    (λ i. Sent record {
      message = message i;
      to = c.hop-to.ensures i;
      created_by = held.created_by;
    })
    ∙ sent_by _ _ c.in-Ok.ensures.open

pub returns-in-Err-clause-outcome : goal.returns-in-Err-clause-outcome
returns-in-Err-clause-outcome c = c.refused_by.ensures.outcome _ _ c.in-Err.ensures.fault

pub returns-in-Err-clause-held : goal.returns-in-Err-clause-held
returns-in-Err-clause-held c =
    let held = c.args.held.now in
    let P : Dialog → Type 0 = λ dialog.
    OnOk c.refused_by.result (record held { dialog = dialog }
    ≡ lived (happens_by_sending c.args.method (request_fault held.dialog c.args.method)) held) in
    subst P (sym c.in-Err.ensures.err)
    (c.refused_by.ensures.held _ c.args.method held c.in-Err.ensures.fault)
