-- The status of the program if a round is refused.
use Rattle.std.specs.Prelude.{ℕ}
use Rattle.sip_round.specs.declared.round_fault.RoundFault.{RoundFault}
use Rattle.sip_round.specs.declared.round_fault.RoundFault.TheVariants.{Broken, MomentBackwards, MomentTooLarge, TooManyEvents, RoundsUsedUp, NoMemory}

abbrev pub round_status : RoundFault → ℕ
round_status Broken = 3
round_status MomentBackwards = 3
round_status MomentTooLarge = 3
round_status TooManyEvents = 3
round_status RoundsUsedUp = 3
round_status (NoMemory broken) = 5
