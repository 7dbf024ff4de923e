-- The law `one_text_of_a_word`: two different texts have different words.
use Rattle.sip_files.proofs.WordLaws.{one_word}
use Rattle.sip_files.proofs.laws.one_text_of_a_word.Goals as goal

pub returns : goal.returns
returns c = one_word
