-- `behind_first`: a text that is kept and isn't empty begins with a semicolon.
use Rattle.sip_grammar.proofs.KeptParameters.{whole}
use Rattle.sip_grammar.proofs.parameters.behind_first.Goals as goal

pub returns-in-len1-up : goal.returns-in-len1-up
returns-in-len1-up c = whole c.args.text.now c.requires c.in-len1-up.len_at_least
