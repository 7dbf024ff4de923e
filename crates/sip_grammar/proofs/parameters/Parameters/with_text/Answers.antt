-- `with_text`: two texts that are kept, one after the other, list the parameters of both.
use Rattle.std.proofs.Common.{ap, List, ◌++◌, ◌∙◌}
use Rattle.std.specs.Option.{option_copied}
use Rattle.sip_grammar.specs.ListedParameters.{listed, stored}
use Rattle.sip_grammar.specs.declared.parameter.Parameter.{Parameter}
use Rattle.sip_grammar.proofs.KeptParameters.{joined}
use Rattle.sip_grammar.proofs.parameters.Parameters.with_text.Goals as goal

pub invariant_of-result : goal.invariant_of-result
invariant_of-result c =
    rw c.in_ok-push_stored.ensures (joined c.self.inside.text
    (stored (option_copied c.args.behind)) c.self.invariant c.requires).kept

pub returns : goal.returns
returns c =
    ap listed c.in_ok-push_stored.ensures
    ∙ (joined c.self.inside.text (stored (option_copied c.args.behind)) c.self.invariant
    c.requires).list
    ∙ ap (λ (ps : List Parameter). ps ++ listed (stored (option_copied c.args.behind)))
    c.self.view_is
