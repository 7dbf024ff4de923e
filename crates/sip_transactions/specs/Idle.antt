-- If no timer of a life is due, a tick does nothing.
use Rattle.std.proofs.Common.{ℕ, refl}
use Rattle.std.specs.Prelude.{None, Some}
use Rattle.keyed_machine.specs.Machine.{IsIdle, tick_at}
use Rattle.sip_timers.proofs.DueFirst.{neither_due}
use Rattle.sip_transactions.specs.Machine.{transaction_machine, life_due}
use Rattle.sip_transactions.specs.Rules.Step.{step_at}

pub ticks_are_idle : (now : ℕ) → IsIdle transaction_machine life_due now (tick_at now)
unfolding step_at
ticks_are_idle now key None calm = refl
ticks_are_idle now key (Some life) calm =
    let none = neither_due now life.context.timers.ending life.context.timers.repeat calm in
    rw none.0 (rw none.1 refl)
