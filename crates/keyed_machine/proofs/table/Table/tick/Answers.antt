-- `Table::tick`: the table stands for the histories with one more input of every key.
use Rattle.std.proofs.Common.{◌≡◌, rules, refl, sym, subst, Some}
use Rattle.keyed_machine.specs.Machine.{tick_at}
use Rattle.keyed_machine.specs.Table.{Held, StepsAll, state_at}
use Rattle.keyed_machine.proofs.History.{adds_inputs}
use Rattle.keyed_machine.proofs.Tick.{joined_told}
use Rattle.keyed_machine.proofs.table.Table.tick.Goals as goal

pub returns-clause-step : goal.returns-clause-step
returns-clause-step g c =
    let cmp = g.M.Key.Ord.cmp in
    let machine = g.M.StateMachine.machine c.args.machine.now in
    let same : c.args.self.now ≡ Some c.into_parts-states.result.0.entries = search rules in
    let step : StepsAll cmp machine (Some c.into_parts-states.result.0.entries)
    (Some c.tick_due.new.states.entries) (tick_at c.args.now) c.in_ok-outputs.outputs.items =
    record {
      sound = refl;
      states = c.in_ok-told.ensures.states;
      added = λ keys covers. joined_told machine
          (state_at cmp (Some c.into_parts-states.result.0.entries)) (tick_at c.args.now) keys
          c.in_ok-told.told.items
          c.in_ok-outputs.outputs.items
          (c.in_ok-told.ensures.told keys (record { ordered = covers.ordered; each = covers.each }))
          c.in_ok-outputs.ensures;
    } in
    subst (λ (old : Held _ _). StepsAll cmp machine old
    (Some c.tick_due.new.states.entries) (tick_at c.args.now) c.in_ok-outputs.outputs.items)
    (sym same) step

pub returns-clause-histories : goal.returns-clause-histories
returns-clause-histories g c = adds_inputs _ _ _ _ (returns-clause-step g c)
