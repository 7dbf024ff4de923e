-- The law `one_text_of_a_rest`: two different texts have different rests.
use Rattle.sip_files.proofs.WordLaws.{one_rest}
use Rattle.sip_files.proofs.laws.one_text_of_a_rest.Goals as goal

pub returns : goal.returns
returns c = one_rest
