-- `tick_key`: the state is taken out, and what the tick makes of it is held under the same key.
use Rattle.std.proofs.Common.{◌≡◌, sym, ◌∙◌, ap}
use Rattle.keyed_machine.specs.Machine.{next, tick_at}
use Rattle.keyed_machine.specs.Table.{state_in}
use Rattle.keyed_machine.proofs.OneKey.{due_after_taken, put_after_taken}
use Rattle.keyed_machine.proofs.one_key.tick_key.Goals as goal

pub returns-clause-states : goal.returns-clause-states
returns-clause-states g c =
    let cmp = g.M.Key.Ord.cmp in
    let machine = g.M.StateMachine.machine c.args.machine.now in
    let key = c.args.key.now in
    put_after_taken cmp key c.in-Some.held
    (g.met.M.StateMachine.exact key c.in-Some.held c.in-Some.ensures.key)
    (λ state. next machine key state (tick_at c.args.now)) _ c.in_ok-after.after
    c.in_ok-after.ensures.next (state_in cmp c.args.states.now.entries)
    (state_in cmp c.take_entry.new.states.entries)
    (state_in cmp c.put_back.new.states.entries) c.in-Some.ensures.state
    c.take_entry.ensures.states c.in_ok-put_back.ensures.states

pub returns-clause-dues : goal.returns-clause-dues
returns-clause-dues g c = λ moments index absent.
    let cmp = g.M.Key.Ord.cmp in
    let machine = g.M.StateMachine.machine c.args.machine.now in
    let key = c.args.key.now in
    let held = c.in-Some.held in
    let same : key ≡ held = g.met.M.StateMachine.exact key held c.in-Some.ensures.key in
    due_after_taken cmp key held same (λ state. next machine key state (tick_at c.args.now)) _
    c.in_ok-after.after c.in_ok-after.ensures.next g.M.StateMachine.due
    (state_in cmp c.args.states.now.entries key) moments c.put_back.new.dues
    c.in-Some.ensures.state
    (c.in_ok-put_back.ensures.dues moments index (ap moments (sym same) ∙ absent))
