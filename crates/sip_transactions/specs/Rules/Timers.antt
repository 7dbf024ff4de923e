-- The timers of a transaction: the repeating one (A, E or G), and the one that ends a state or the
-- transaction (B, D, F, H to M).
use Rattle.std.specs.Prelude.{ℕ, ◌+◌, ◌*◌, ◌^◌, min, None, Some}
use Rattle.sip_timers.specs.declared.estimate.TheConstants.{LIFETIME, T1}
use Rattle.sip_transactions.specs.declared.step.Due.{Due}
use Rattle.sip_transactions.specs.declared.step.Due.TheVariants.{Keep, Clear, Ending, Both, Again}
use Rattle.sip_transactions.specs.declared.step.Pace.{Pace}
use Rattle.sip_transactions.specs.declared.step.Pace.TheVariants.{Doubled, Capped, Even}
use Rattle.sip_transactions.specs.declared.timers.TheConstants.{T2}
use Rattle.sip_transactions.specs.Dues.{Dues}

-- no timer runs
abbrev pub stopped : Dues
stopped = record { repeat = None; fired = 0; ending = None }

-- how long A, E or G runs after it fired j times (sections 17.1.1.2, 17.1.2.2 and 17.2.1)
abbrev pub interval : Pace → ℕ → ℕ
interval Doubled j = T1 * 2 ^ j
interval Capped j = min (T1 * 2 ^ j) T2
interval Even j = T2

-- the timers after a row at a moment; all but `Keep` and `Again` set `fired` to 0
abbrev pub timers_after : Due → ℕ → Dues → Dues
timers_after Keep now timers = timers
timers_after Clear now timers = stopped
timers_after (Ending after) now timers = record stopped { ending = Some (now + after) }
timers_after Both now timers =
    record stopped { repeat = Some (now + T1); ending = Some (now + LIFETIME) }
timers_after (Again pace) now timers = let fired = timers.fired + 1 in
    record timers { fired = fired; repeat = Some (now + interval pace fired) }
