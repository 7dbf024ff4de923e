-- `LowerText::of`: a text in lower case has no capitals.
use Rattle.sip_grammar.proofs.LowerTexts.{lower_texts}
use Rattle.sip_grammar.proofs.lower_text.Checked+LowerTextRule.of.Goals as goal

pub from_text-requires : goal.from_text-requires
from_text-requires c = rw c.in_ok-lower_case.ensures (lower_texts c.args.text.now)
