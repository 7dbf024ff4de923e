-- `hold_key`: after it each key is due at its state's moment.
use Rattle.std.proofs.Common.{◌≡◌, Some, refl, rules}
use Rattle.keyed_machine.specs.Machine.{due_of}
use Rattle.keyed_machine.specs.Table.{state_in}
use Rattle.keyed_machine.proofs.OneKey.{dues_after}
use Rattle.keyed_machine.proofs.one_key.hold_key.Goals as goal

pub returns-clause-armed : goal.returns-clause-armed
returns-clause-armed g c =
    let cmp = g.M.Key.Ord.cmp in
    let due = g.M.StateMachine.due in
    let old = state_in cmp c.args.states.now.entries in
    let former : due_of due (old c.args.key) ≡ c.due_moment-former.result = search rules in
    dues_after cmp due c.args.key (Some c.args.state) (due c.args.state) old
    (state_in cmp c.put_back.new.states.entries) c.put_back.new.dues refl
    (λ q. search rules)
    (c.in_ok-put_back.ensures.dues (λ q. due_of due (old q)) c.requires former)
