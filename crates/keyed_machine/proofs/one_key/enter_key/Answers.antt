-- `enter_key`: the states after the step, with each key due at its state's moment.
use Rattle.std.proofs.Common.{◌≡◌, None, cond, rules, sym, ◌∙◌, ap}
use Rattle.std.proofs.lemmas.Map.Views.{tells_apart}
use Rattle.std.specs.HashMap.{get}
use Rattle.keyed_machine.specs.Machine.{adds, due_of, given_at, next}
use Rattle.keyed_machine.specs.Table.{state_in}
use Rattle.keyed_machine.proofs.OneKey.{dues_after}
use Rattle.keyed_machine.proofs.SameKeys.{changed_by_order, found_by_order, none_stays, stepped_by_order}
use Rattle.keyed_machine.proofs.one_key.enter_key.Goals as goal
use Rattle.keyed_machine.proofs.one_key.enter_key.Goals.{then-stays, else-stays}

pub returns-in-Occupied-clause-states : goal.returns-in-Occupied-clause-states
returns-in-Occupied-clause-states g c =
    let eq = g.M.Key.PartialEq.eq in
    let matches = g.met.M.Key.Ord.matches_eq in
    let machine = g.M.StateMachine.machine c.args.machine.now in
    let input = given_at c.args.now c.args.input in
    let key = c.args.key in
    let held = c.in_ok-key-in-Occupied.key in
    let old = c.args.states.now in
    let newer = c.settle.new.states in
    let same : key ≡ held =
    tells_apart g.met.M.StateMachine.exact key held
    (sym (matches key held) ∙ search rules) in
    let changed : (q : g.row.M-Key.Denot)
    → get eq newer q ≡ cond (eq key q) (next machine key (get eq old key) input) (get eq old q) =
    λ q. elim c.if-stays.branch [ then-stays w ↦ search rules | else-stays w ↦ search rules ] in
    stepped_by_order eq g.M.Key.Ord.cmp matches old.entries newer.entries key
    (λ state. next machine key state input) changed

pub returns-in-Occupied-clause-armed : goal.returns-in-Occupied-clause-armed
returns-in-Occupied-clause-armed g c =
    let cmp = g.M.Key.Ord.cmp in
    let eq = g.M.Key.PartialEq.eq in
    let matches = g.met.M.Key.Ord.matches_eq in
    let due = g.M.StateMachine.due in
    let machine = g.M.StateMachine.machine c.args.machine.now in
    let input = given_at c.args.now c.args.input in
    let key = c.in_ok-key-in-Occupied.key in
    let states = c.args.states.now in
    let old = state_in cmp states.entries in
    let equal : c.args.key ≡ key =
    tells_apart g.met.M.StateMachine.exact c.args.key key
    (sym (matches c.args.key key) ∙ search rules) in
    let found : get eq states key ≡ old key =
    found_by_order eq cmp matches states.entries key in
    let former : due_of due (get eq states key) ≡ c.due_of-former.result = search rules in
    let same : c.if-stays.due ≡ due_of due (next machine key (get eq states key) input) =
    elim c.if-stays.branch [ then-stays w ↦ search rules | else-stays w ↦ search rules ] in
    let changed : (q : g.row.M-Key.Denot) → get eq c.settle.new.states q
    ≡ cond (eq key q) (next machine key (get eq states key) input) (get eq states q) =
    λ q. elim c.if-stays.branch [ then-stays w ↦ search rules | else-stays w ↦ search rules ] in
    dues_after cmp due key (next machine key (old key) input) c.if-stays.due old
    (state_in cmp c.settle.new.states.entries) c.settle.new.dues
    (same ∙ ap (λ state. due_of due (next machine key state input)) found)
    (stepped_by_order eq cmp matches states.entries c.settle.new.states.entries key
    (λ state. next machine key state input) changed)
    (c.in_ok-settle-in-Occupied.ensures.dues (λ q. due_of due (old q)) c.requires.armed
    (ap (due_of due) (sym found) ∙ former))

pub returns-in-Occupied-clause-added : goal.returns-in-Occupied-clause-added
returns-in-Occupied-clause-added g c =
    let eq = g.M.Key.PartialEq.eq in
    let matches = g.met.M.Key.Ord.matches_eq in
    let machine = g.M.StateMachine.machine c.args.machine.now in
    let input = given_at c.args.now c.args.input in
    let key = c.args.key in
    let held = c.in_ok-key-in-Occupied.key in
    let old = c.args.states.now in
    let same : key ≡ held =
    tells_apart g.met.M.StateMachine.exact key held
    (sym (matches key held) ∙ search rules) in
    let added : c.in_ok-stays-in-Occupied.outputs.items
    ≡ adds machine key (get eq old key) input =
    search rules in
    added ∙ ap (λ state. adds machine key state input)
    (found_by_order eq g.M.Key.Ord.cmp matches old.entries key)

pub returns-in-Ok-clause-states : goal.returns-in-Ok-clause-states
returns-in-Ok-clause-states g c =
    let machine = g.M.StateMachine.machine c.args.machine.now in
    let input = given_at c.args.now c.args.input in
    let key = c.args.key in
    stepped_by_order g.M.Key.PartialEq.eq g.M.Key.Ord.cmp g.met.M.Key.Ord.matches_eq
    c.args.states.now.entries _ key (λ state. next machine key state input) (λ q. search rules)

pub returns-in-Ok-clause-armed : goal.returns-in-Ok-clause-armed
returns-in-Ok-clause-armed g c =
    let cmp = g.M.Key.Ord.cmp in
    let eq = g.M.Key.PartialEq.eq in
    let matches = g.met.M.Key.Ord.matches_eq in
    let due = g.M.StateMachine.due in
    let key = c.key-3.result.now in
    let states = c.args.states.now in
    let old = state_in cmp states.entries in
    let after = c.in_ok-after.after in
    let absent : get eq states key ≡ None = search rules in
    let none : old key ≡ None = sym (found_by_order eq cmp matches states.entries key) ∙ absent in
    dues_after cmp due key after c.due_moment.result old _ c.arm_copy.new.dues (search rules)
    (changed_by_order eq cmp matches states.entries _ key after (λ q. search rules))
    (c.in_ok-arm_copy.ensures (λ q. due_of due (old q)) c.requires.armed (ap (due_of due) none))

pub returns-in-Ok-clause-added : goal.returns-in-Ok-clause-added
returns-in-Ok-clause-added g c =
    let eq = g.M.Key.PartialEq.eq in
    let machine = g.M.StateMachine.machine c.args.machine.now in
    let input = given_at c.args.now c.args.input in
    let key = c.args.key in
    let old = c.args.states.now in
    let added : c.in_ok-after.outputs.items ≡ adds machine key (get eq old key) input =
    search rules in
    added ∙ ap (λ state. adds machine key state input)
    (found_by_order eq g.M.Key.Ord.cmp g.met.M.Key.Ord.matches_eq old.entries key)

pub returns-in-Err-clause-states : goal.returns-in-Err-clause-states
returns-in-Err-clause-states g c =
    let cmp = g.M.Key.Ord.cmp in
    let eq = g.M.Key.PartialEq.eq in
    let machine = g.M.StateMachine.machine c.args.machine.now in
    let input = given_at c.args.now c.args.input in
    let key = c.args.key in
    let states = c.args.states.now in
    let found : get eq states key ≡ state_in cmp states.entries key =
    found_by_order eq cmp g.met.M.Key.Ord.matches_eq states.entries key in
    let absent : get eq states key ≡ None = search rules in
    let none : next machine key (get eq states key) input ≡ None = search rules in
    none_stays g.met.M.StateMachine.exact states.entries _ key
    (next machine key (state_in cmp states.entries key) input) (search rules)
    (sym found ∙ absent) (ap (λ state. next machine key state input) (sym found) ∙ none)

pub returns-in-Err-clause-armed : goal.returns-in-Err-clause-armed
returns-in-Err-clause-armed g c =
    let cmp = g.M.Key.Ord.cmp in
    let eq = g.M.Key.PartialEq.eq in
    let matches = g.met.M.Key.Ord.matches_eq in
    let due = g.M.StateMachine.due in
    let key = c.key-3.result.now in
    let states = c.args.states.now in
    let old = state_in cmp states.entries in
    let after = c.in_ok-after.after in
    let absent : get eq states key ≡ None = search rules in
    let none : old key ≡ None = sym (found_by_order eq cmp matches states.entries key) ∙ absent in
    dues_after cmp due key after c.due_moment.result old _ c.arm_copy.new.dues (search rules)
    (none_stays g.met.M.StateMachine.exact states.entries _ key after (search rules) none
    (search rules))
    (c.in_ok-arm_copy.ensures (λ q. due_of due (old q)) c.requires.armed (ap (due_of due) none))

pub returns-in-Err-clause-added : goal.returns-in-Err-clause-added
returns-in-Err-clause-added g c =
    let eq = g.M.Key.PartialEq.eq in
    let machine = g.M.StateMachine.machine c.args.machine.now in
    let input = given_at c.args.now c.args.input in
    let key = c.args.key in
    let old = c.args.states.now in
    let added : c.in_ok-after.outputs.items ≡ adds machine key (get eq old key) input =
    search rules in
    added ∙ ap (λ state. adds machine key state input)
    (found_by_order eq g.M.Key.Ord.cmp g.met.M.Key.Ord.matches_eq old.entries key)
