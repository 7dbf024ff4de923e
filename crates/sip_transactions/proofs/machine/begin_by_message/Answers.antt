-- `begin_by_message`: it says what the row says of the message that came.
use Rattle.std.proofs.Common.{◌≡◌, ◌∙◌, ap, None, Some}
use Rattle.sip_transactions.specs.Steps.Life.{context_by}
use Rattle.sip_transactions.specs.Steps.Output.{made_bytes}
use Rattle.sip_transactions.proofs.machine.begin_by_message.Goals as goal

pub returns-clause-adds : goal.returns-clause-adds
returns-clause-adds c =
    let context : c.new-context.result ≡ context_by c.args.id c.args.message.call_id c.args.reply_to
    None =
    c.new-context.ensures ∙ ap (λ call_id. context_by c.args.id call_id c.args.reply_to None)
    (c.in_ok-clone.ensures.cases ∙ ap (λ message. message.call_id) c.get-2.ensures) in
    let made = c.in_ok-made.ensures
    ∙ ap (λ message. made_bytes None (c.args.step).sent (Some message)) c.get.ensures in
    rw (← made, ← context) c.act.ensures.adds
