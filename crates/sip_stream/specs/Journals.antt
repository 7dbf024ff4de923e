-- Two journals that don't leave the same.
use Rattle.std.specs.Prelude.{ℕ, List}
use Rattle.sip_files.specs.EventFile.{SpellsSession}
use Rattle.sip_round.specs.SameRounds.{LeaveTheSame}
use Rattle.sip_round.specs.declared.config.Config.{Config}
use Rattle.sip_round.specs.declared.round.Round.{Round}

-- after the rounds of one journal something is held otherwise than after those of the other one, or
-- the next round has another number or comes after another moment
pub record LeaveOthers (one other : List ℕ) : Type 0 where
  pub config : Config
  pub rounds : List Round
  pub other_config : Config
  pub other_rounds : List Round
  pub spelled : SpellsSession config rounds one
  pub other_spelled : SpellsSession other_config other_rounds other
  pub differ : LeaveTheSame config other_config rounds other_rounds → ⊥
