-- The law `one_meaning_of_a_line`: a line says one thing, in all versions.
use Rattle.sip_files.proofs.LineLaws.{one_meaning}
use Rattle.sip_files.proofs.laws.one_meaning_of_a_line.Goals as goal

pub returns : goal.returns
returns c = one_meaning
