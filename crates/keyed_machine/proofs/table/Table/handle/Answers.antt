-- `Table::handle`: the table stands for the histories with one more input of the key.
use Rattle.std.proofs.Common.{◌≡◌, rules, refl, sym, subst, Some}
use Rattle.keyed_machine.specs.Machine.{given_at}
use Rattle.keyed_machine.specs.Table.{Held, StepsKey}
use Rattle.keyed_machine.proofs.History.{adds_input}
use Rattle.keyed_machine.proofs.table.Table.handle.Goals as goal

pub returns-clause-step : goal.returns-clause-step
returns-clause-step g c =
    let cmp = g.M.Key.Ord.cmp in
    let machine = g.M.StateMachine.machine c.args.machine.now in
    let same : c.args.self.now ≡ Some c.into_parts-states.result.0.entries = search rules in
    let step : StepsKey cmp machine (Some c.into_parts-states.result.0.entries)
    (Some c.step_key.new.states.entries) c.args.key (given_at c.args.now c.args.input)
    c.in_ok-outputs.outputs.items =
    record {
      sound = refl;
      states = c.in_ok-outputs.ensures.states;
      added = c.in_ok-outputs.ensures.added;
    } in
    subst (λ (old : Held _ _). StepsKey cmp machine old (Some c.step_key.new.states.entries)
    c.args.key (given_at c.args.now c.args.input) c.in_ok-outputs.outputs.items) (sym same) step

pub returns-clause-histories : goal.returns-clause-histories
returns-clause-histories g c =
    adds_input g.met.M.StateMachine.exact g.met.M.Key.Ord.total _ _ _ _ _ (returns-clause-step g c)
