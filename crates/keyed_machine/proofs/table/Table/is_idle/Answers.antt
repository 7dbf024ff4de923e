-- `Table::is_idle`: if it says so, a phase without items changes nothing and says nothing.
use Rattle.std.proofs.Common.{◌≡◌, Some, [], rules, subst, sym}
use Rattle.keyed_machine.specs.Machine.{tick_at}
use Rattle.keyed_machine.specs.Phase.{AddsPhase, phase_at}
use Rattle.keyed_machine.specs.Table.{Held}
use Rattle.keyed_machine.proofs.IdlePhase.{idle_phase}
use Rattle.keyed_machine.proofs.Phases.{adds_phase}
use Rattle.keyed_machine.proofs.table.Table.is_idle.Goals as goal

pub returns-in-Some : goal.returns-in-Some
returns-in-Some g c = record {
  phases = λ calm.
      let cmp = g.M.Key.Ord.cmp in
      let machine = g.M.StateMachine.machine c.args._machine.now in
      let due = g.M.StateMachine.due in
      let idle = g.met.M.StateMachine.idle c.args._machine.now in
      let entries = c.in-Some.live in
      let same : c.args.self.now ≡ Some entries = search rules in
      let adds : AddsPhase cmp machine tick_at (Some entries) (Some entries)
      (phase_at c.args.now c.args.ticks []) [] [] =
      adds_phase g.met.M.Key.Ord.total g.met.M.StateMachine.exact machine due tick_at idle _ _ _ _ _
      (idle_phase cmp machine due tick_at idle entries c.args.now c.args.ticks
      (c.is_calm.ensures calm)) in
      subst (λ (held : Held _ _). AddsPhase cmp machine tick_at held held
      (phase_at c.args.now c.args.ticks []) [] []) (sym same) adds;
}
