-- `as_text`: the parameters of a text that is kept follow the rules.
use Rattle.sip_grammar.proofs.KeptParameters.{all_rules}
use Rattle.sip_grammar.proofs.parameters.Parameters.as_text.Goals as goal

pub returns-clause-rules : goal.returns-clause-rules
returns-clause-rules c = rw (← c.self.view_is) (all_rules _ c.self.invariant.rules)
