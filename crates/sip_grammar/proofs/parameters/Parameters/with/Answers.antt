-- `with`: a text with one more parameter at the end is kept, and lists that parameter last.
use Rattle.std.proofs.Common.{ap, List, [], ◌∷◌, ◌++◌, ◌∙◌}
use Rattle.sip_grammar.specs.ListedParameters.{listed, as_parameter}
use Rattle.sip_grammar.specs.declared.parameter.Parameter.{Parameter}
use Rattle.sip_grammar.proofs.KeptParameters.{one_more}
use Rattle.sip_grammar.proofs.parameters.Parameters.with.Goals as goal

pub invariant_of-result : goal.invariant_of-result
invariant_of-result c =
    rw c.in_ok-push_parameter.ensures (one_more c.self.inside.text c.args.parameter
    c.self.invariant c.requires.name c.requires.value).kept

pub returns : goal.returns
returns c =
    ap listed c.in_ok-push_parameter.ensures
    ∙ (one_more c.self.inside.text c.args.parameter c.self.invariant c.requires.name
    c.requires.value).list
    ∙ ap (λ (ps : List Parameter). ps ++ as_parameter c.args.parameter ∷ []) c.self.view_is
