-- What a row does to the due moments.
use Rattle.std.specs.Prelude.{◌≡◌, ℕ, ◌+◌, ◌*◌, ◌^◌, min, true, false, Option, None, Some}
use Rattle.sip_timers.specs.Queue.{is_due}
use Rattle.sip_timers.specs.Earlier.{earlier}
use Rattle.sip_transactions.specs.declared.step.Due.{Due}
use Rattle.sip_transactions.specs.declared.step.Due.TheVariants.{Keep, Clear, Ending, Both, Again}
use Rattle.sip_timers.specs.declared.estimate.TheConstants.{LIFETIME, T1}
use Rattle.sip_transactions.specs.declared.timers.TheConstants.{T2}
use Rattle.sip_transactions.specs.declared.step.Pace.{Pace}
use Rattle.sip_transactions.specs.declared.step.Pace.TheVariants.{Doubled, Capped, Even}
use Rattle.sip_transactions.specs.Dues.{Dues}

-- nothing is due
abbrev pub no_dues : Dues
no_dues = record { repeat = None; fired = 0; ending = None }

-- the moment at which the next of the two is due
abbrev pub first_due : Dues → Option ℕ
first_due dues = earlier dues.ending dues.repeat

-- the interval after j firings (RFC 3261 sections 17.1.1.2, 17.1.2.2 and 17.2.1: timers A, E and G)
abbrev pub interval : Pace → ℕ → ℕ
interval Doubled j = T1 * 2 ^ j
interval Capped j = min (T1 * 2 ^ j) T2
interval Even j = T2

-- the due moments after a row
abbrev pub rearmed : Due → ℕ → Dues → Dues
rearmed Keep now dues = dues
rearmed Clear now dues = no_dues
rearmed (Ending after) now dues = record { repeat = None; fired = 0; ending = Some (now + after) }
rearmed Both now dues =
    record { repeat = Some (now + T1); fired = 0; ending = Some (now + LIFETIME) }
rearmed (Again pace) now dues =
    record {
      repeat = Some (now + interval pace (dues.fired + 1));
      fired = dues.fired + 1;
      ending = dues.ending;
    }

-- the repeat fires only when it is due, and while the end isn't
abbrev pub IsTimely : Due → ℕ → Dues → Type 0
IsTimely Keep now dues = Unit {0}
IsTimely Clear now dues = Unit {0}
IsTimely (Ending after) now dues = Unit {0}
IsTimely Both now dues = Unit {0}
IsTimely (Again pace) now dues = (is_due now dues.repeat ≡ true) × (is_due now dues.ending ≡ false)
