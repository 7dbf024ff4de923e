-- The law `one_text_of_a_line`: a line has one text, up to the case of letters in a failed send.
use Rattle.sip_files.proofs.LowerCase.{one_text}
use Rattle.sip_files.proofs.laws.one_text_of_a_line.Goals as goal

pub returns : goal.returns
returns c = one_text
