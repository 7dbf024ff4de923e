-- The law `lines_are_laid`: the lines of a text begin with those of its layout.
use Rattle.std.proofs.Common.{[], ◌∷◌, ◌++◌, replicate}
use Rattle.sip_reader.proofs.Unfolding.{found_first}
use Rattle.sip_reader.proofs.laws.lines_are_laid.Goals as goal

pub returns : goal.returns
returns c text start rest lines found lays all =
    found_first text (replicate lays.skipped [] ++ (lays.first ∷ (lays.more ++ ([] ∷ [])))) rest
    lays.parts found all
