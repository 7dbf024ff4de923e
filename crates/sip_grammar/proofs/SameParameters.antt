-- Parameters that are written alike are the same.
use Rattle.std.proofs.Common.{◌≡◌, List, sym, ap, ◌∙◌}
use Rattle.std.specs.List.{AllByRecursion}
use Rattle.std.proofs.lemmas.Option.{same_Some}
use Rattle.sip_grammar.specs.ParameterRules.{IsParameter}
use Rattle.sip_grammar.specs.ParameterValues.{all_parameters}
use Rattle.sip_grammar.specs.WrittenParameters.{parameters_text}
use Rattle.sip_grammar.specs.declared.parameter.Parameter.{Parameter}
use Rattle.sip_grammar.proofs.WrittenParameters.{all_again}

pub same_parameters : (ps qs : List Parameter) → AllByRecursion IsParameter ps
    → AllByRecursion IsParameter qs → parameters_text ps ≡ parameters_text qs → ps ≡ qs
same_parameters ps qs rules other_rules same =
    same_Some ps qs
    (sym (all_again ps rules) ∙ ap all_parameters same ∙ all_again qs other_rules)
