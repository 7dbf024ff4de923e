-- `Table::next_due`: before that moment a phase without items changes nothing and says nothing.
use Rattle.std.proofs.Common.{◌≡◌, Some, [], rules, subst, sym}
use Rattle.keyed_machine.specs.Machine.{tick_at}
use Rattle.keyed_machine.specs.Phase.{AddsPhase, phase_at}
use Rattle.keyed_machine.specs.Table.{Held}
use Rattle.keyed_machine.proofs.IdlePhase.{idle_phase}
use Rattle.keyed_machine.proofs.Phases.{adds_phase}
use Rattle.keyed_machine.proofs.table.Table.next_due.Goals as goal

pub returns-in-Some-clause-before : goal.returns-in-Some-clause-before
returns-in-Some-clause-before g c = λ some now ticks before.
    let cmp = g.M.Key.Ord.cmp in
    let machine = g.M.StateMachine.machine c.args._machine.now in
    let due = g.M.StateMachine.due in
    let idle = g.met.M.StateMachine.idle c.args._machine.now in
    let entries = c.in-Some.live in
    let same : c.args.self.now ≡ Some entries = search rules in
    let adds : AddsPhase cmp machine tick_at (Some entries) (Some entries)
    (phase_at now ticks []) [] [] =
    adds_phase g.met.M.Key.Ord.total g.met.M.StateMachine.exact machine due tick_at idle _ _ _ _ _
    (idle_phase cmp machine due tick_at idle entries now ticks
    (λ with_tick. c.next_due.ensures.before now (before with_tick))) in
    subst (λ (held : Held _ _). AddsPhase cmp machine tick_at held held (phase_at now ticks []) []
    [])
    (sym same) adds
