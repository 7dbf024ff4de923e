-- `Shard::tick`: each held transaction takes a step by the tick, and its history has the tick too.
use Rattle.std.proofs.Common.{IfOk, subst}
use Rattle.sip_message.specs.Key.{key_cmp}
use Rattle.keyed_machine.specs.History.{AddsInputs}
use Rattle.keyed_machine.specs.Table.{StepsAll}
use Rattle.sip_transactions.specs.Machine.{transaction_machine}
use Rattle.keyed_machine.specs.Machine.{tick_at}
use Rattle.sip_transactions.proofs.shard.Shard.tick.Goals as goal

pub returns-clause-step : goal.returns-clause-step
returns-clause-step c =
    subst (λ old. IfOk c.tick.result
    (λ outs. StepsAll key_cmp transaction_machine old.held c.tick.new.self
    (tick_at c.args.now) outs.items)) c.self.view_is c.tick.ensures.step

pub returns-clause-histories : goal.returns-clause-histories
returns-clause-histories c =
    subst (λ old. IfOk c.tick.result
    (λ outs. AddsInputs key_cmp transaction_machine old.held c.tick.new.self
    (tick_at c.args.now) outs.items)) c.self.view_is c.tick.ensures.histories
