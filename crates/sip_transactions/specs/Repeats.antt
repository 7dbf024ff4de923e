-- Only rows for the trigger `RetransmitDue` let the repeat fire.
use Rattle.std.specs.Prelude.{◌≡◌, ℕ, true, false, Option, None, Some}
use Rattle.sip_transactions.specs.declared.life.Life.{Life}
use Rattle.sip_transactions.specs.declared.step.Due.{Due}
use Rattle.sip_transactions.specs.declared.step.Due.TheVariants.{Keep, Clear, Ending, Both, Again}
use Rattle.sip_transactions.specs.declared.trigger.Trigger.{Trigger}
use Rattle.sip_transactions.specs.declared.trigger.Trigger.TheVariants as on
use Rattle.sip_timers.specs.Queue.{is_due}

-- a row lets the repeat fire only if the repeat of the life is due, and its end isn't
abbrev pub RepeatsInTime : Due → ℕ → Option Life → Type 0
RepeatsInTime Keep now held = Unit {0}
RepeatsInTime Clear now held = Unit {0}
RepeatsInTime (Ending after) now held = Unit {0}
RepeatsInTime Both now held = Unit {0}
RepeatsInTime (Again pace) now None = ⊥
RepeatsInTime (Again pace) now (Some life) =
    (is_due now life.context.timers.repeat ≡ true) × (is_due now life.context.timers.ending ≡ false)

-- the trigger `RetransmitDue` comes only to such a life
abbrev pub RepeatIsDue : Trigger → ℕ → Option Life → Type 0
RepeatIsDue on.RetransmitDue now None = ⊥
RepeatIsDue on.RetransmitDue now (Some life) =
    (is_due now life.context.timers.repeat ≡ true) × (is_due now life.context.timers.ending ≡ false)
RepeatIsDue on.Start now held = Unit {0}
RepeatIsDue on.TimeoutDue now held = Unit {0}
RepeatIsDue on.Failed now held = Unit {0}
RepeatIsDue (on.Response class) now held = Unit {0}
RepeatIsDue on.Request now held = Unit {0}
RepeatIsDue on.Ack now held = Unit {0}
RepeatIsDue (on.Answer class) now held = Unit {0}

-- a step that lets the repeat fire is for that trigger
abbrev pub FiresWhenDue : Due → Trigger → Type 0
FiresWhenDue Keep trigger = Unit {0}
FiresWhenDue Clear trigger = Unit {0}
FiresWhenDue (Ending after) trigger = Unit {0}
FiresWhenDue Both trigger = Unit {0}
FiresWhenDue (Again pace) trigger = trigger ≡ on.RetransmitDue
