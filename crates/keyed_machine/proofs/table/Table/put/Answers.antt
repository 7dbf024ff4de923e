-- `Table::put` holds the state of one key.
use Rattle.std.proofs.Common.{◌≡◌, Some, cond, rules, sym, subst}
use Rattle.std.specs.BTreeMap.{is_at}
use Rattle.keyed_machine.specs.Table.{Held, state_at}
use Rattle.keyed_machine.proofs.table.Table.put.Goals as goal

pub returns-clause-states : goal.returns-clause-states
returns-clause-states g c = λ q.
    let cmp = g.M.Key.Ord.cmp in
    let same : c.args.self.now ≡ Some c.into_parts-states.result.0.entries = search rules in
    subst (λ (old : Held _ _). state_at cmp (Some c.hold_key.new.states.entries) q
    ≡ cond (is_at (cmp c.args.key) q) (Some c.args.state) (state_at cmp old q))
    (sym same) (c.in_ok-hold_key.ensures.states q)
