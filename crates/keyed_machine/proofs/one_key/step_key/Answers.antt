-- `step_key`: the states after the step, with each key due at its state's moment.
use Rattle.std.proofs.Common.{◌≡◌, cond, rules, sym, ◌∙◌, ap}
use Rattle.std.specs.HashMap.{get}
use Rattle.keyed_machine.specs.Machine.{adds, due_of, given_at, next}
use Rattle.keyed_machine.specs.Table.{state_in}
use Rattle.keyed_machine.proofs.OneKey.{dues_after}
use Rattle.keyed_machine.proofs.SameKeys.{found_by_order, stepped_by_order}
use Rattle.keyed_machine.proofs.one_key.step_key.Goals as goal
use Rattle.keyed_machine.proofs.one_key.step_key.Goals.{then-stays, else-stays}

pub returns-clause-added : goal.returns-clause-added
returns-clause-added g c =
    let eq = g.M.Key.PartialEq.eq in
    let machine = g.M.StateMachine.machine c.args.machine.now in
    let input = given_at c.args.now c.args.input in
    let key = c.args.key in
    let old = c.args.states.now in
    let added : c.in_ok-stays.outputs.items ≡ adds machine key (get eq old key) input =
    search rules in
    added ∙ ap (λ state. adds machine key state input)
    (found_by_order eq g.M.Key.Ord.cmp g.met.M.Key.Ord.matches_eq old.entries key)

pub returns-clause-states : goal.returns-clause-states
returns-clause-states g c =
    let eq = g.M.Key.PartialEq.eq in
    let machine = g.M.StateMachine.machine c.args.machine.now in
    let input = given_at c.args.now c.args.input in
    let key = c.args.key in
    let old = c.args.states.now in
    let newer = c.settle.new.states in
    let changed : (q : g.row.M-Key.Denot)
    → get eq newer q ≡ cond (eq key q) (next machine key (get eq old key) input) (get eq old q) =
    λ q. elim c.if-stays.branch [ then-stays w ↦ search rules | else-stays w ↦ search rules ] in
    stepped_by_order eq g.M.Key.Ord.cmp g.met.M.Key.Ord.matches_eq old.entries newer.entries key
    (λ state. next machine key state input) changed

pub returns-clause-armed : goal.returns-clause-armed
returns-clause-armed g c =
    let cmp = g.M.Key.Ord.cmp in
    let eq = g.M.Key.PartialEq.eq in
    let due = g.M.StateMachine.due in
    let machine = g.M.StateMachine.machine c.args.machine.now in
    let input = given_at c.args.now c.args.input in
    let key = c.args.key in
    let states = c.args.states.now in
    let old = state_in cmp states.entries in
    let found : get eq states key ≡ old key =
    found_by_order eq cmp g.met.M.Key.Ord.matches_eq states.entries key in
    let former : due_of due (get eq states key) ≡ c.due_of-former.result = search rules in
    let same : c.if-stays.due ≡ due_of due (next machine key (get eq states key) input) =
    elim c.if-stays.branch [ then-stays w ↦ search rules | else-stays w ↦ search rules ] in
    dues_after cmp due key (next machine key (old key) input) c.if-stays.due old
    (state_in cmp c.settle.new.states.entries) c.settle.new.dues
    (same ∙ ap (λ state. due_of due (next machine key state input)) found)
    (returns-clause-states g c)
    (c.in_ok-settle.ensures.dues (λ q. due_of due (old q)) c.requires.armed
    (ap (due_of due) (sym found) ∙ former))
