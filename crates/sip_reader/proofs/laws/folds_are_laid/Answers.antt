-- The law `folds_are_laid`: without its folds, the head of a message consists of the lines by which
-- it is read.
use Rattle.sip_reader.proofs.Unfolding.{head_unfolds}
use Rattle.sip_reader.proofs.laws.folds_are_laid.Goals as goal

pub returns : goal.returns
returns c = head_unfolds
