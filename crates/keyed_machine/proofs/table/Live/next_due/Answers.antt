-- `Live::next_due` gives the first moment at which a key is due.
use Rattle.std.proofs.Common.{◌≡◌, ℕ, false, subst}
use Rattle.std.specs.Prelude.{IfSome, Some}
use Rattle.sip_timers.specs.Queue.{is_due}
use Rattle.sip_timers.proofs.Schedules.{calm_before}
use Rattle.keyed_machine.specs.Machine.{due_of}
use Rattle.keyed_machine.specs.Table.{IsCalm, state_in}
use Rattle.keyed_machine.proofs.table.Live.next_due.Goals as goal

pub returns-clause-before : goal.returns-clause-before
returns-clause-before g c =
    let cmp = g.M.Key.Ord.cmp in
    let due = g.M.StateMachine.due in
    let entries = c.self.inside.states.entries in
    subst (λ held. (now : ℕ) → is_due now c.next_due.result ≡ false
    → IsCalm due (state_in cmp held) now) c.self.view_is
    (λ now quiet. calm_before now (λ q. due_of due (state_in cmp entries q)) c.next_due.result
    (c.next_due.ensures.none_before (λ q. due_of due (state_in cmp entries q)) c.self.invariant)
    (c.next_due.ensures.none_due (λ q. due_of due (state_in cmp entries q)) c.self.invariant)
    quiet)

pub returns-clause-due : goal.returns-clause-due
returns-clause-due g c =
    let cmp = g.M.Key.Ord.cmp in
    let due = g.M.StateMachine.due in
    subst (λ entries. IfSome c.next_due.result (λ first. (key : _)
    × (due_of due (state_in cmp entries key) ≡ Some first))) c.self.view_is
    (c.next_due.ensures.of_a_key (λ q. due_of due (state_in cmp c.self.inside.states.entries q))
    c.self.invariant)
