-- `Table::deal` does a phase: its tick, then its items; the table stands for one more phase.
use Rattle.std.proofs.Common.{◌≡◌, rules, sym, subst, Some}
use Rattle.keyed_machine.specs.Machine.{tick_at}
use Rattle.keyed_machine.specs.Phase.{DealsPhase, phase_at}
use Rattle.keyed_machine.specs.Table.{Held}
use Rattle.keyed_machine.specs.Groups.{groups}
use Rattle.keyed_machine.proofs.Phases.{deals_phase, adds_phase}
use Rattle.keyed_machine.proofs.table.Table.deal.Goals as goal

pub returns-clause-step : goal.returns-clause-step
returns-clause-step g c =
    let cmp = g.M.Key.Ord.cmp in
    let machine = g.M.StateMachine.machine c.args.machine.now in
    let same : c.args.self.now ≡ Some c.into_parts-states.result.0.entries = search rules in
    let phase = phase_at c.args.now c.args.ticks c.args.items.items in
    let step : DealsPhase cmp machine tick_at (Some c.into_parts-states.result.0.entries)
    (Some c.deal_items.new.states.entries) phase (groups c.in_ok-ticks.ticks.items)
    (groups c.in_ok-items.items.items) =
    deals_phase cmp machine tick_at c.into_parts-states.result.0.entries
    c.tick_if.new.states.entries
    c.deal_items.new.states.entries phase (groups c.in_ok-ticks.ticks.items)
    (groups c.in_ok-items.items.items)
    c.in_ok-ticks.ensures.states c.in_ok-items.ensures.states c.in_ok-ticks.ensures.told
    c.in_ok-items.ensures.told in
    subst (λ (old : Held _ _). DealsPhase cmp machine tick_at old
    (Some c.deal_items.new.states.entries) phase (groups c.in_ok-ticks.ticks.items)
    (groups c.in_ok-items.items.items)) (sym same) step

pub returns-clause-phases : goal.returns-clause-phases
returns-clause-phases g c =
    adds_phase g.met.M.Key.Ord.total g.met.M.StateMachine.exact
    (g.M.StateMachine.machine c.args.machine.now) g.M.StateMachine.due
    tick_at
    (g.met.M.StateMachine.idle c.args.machine.now) _ _ _ _ _ (returns-clause-step g c)
