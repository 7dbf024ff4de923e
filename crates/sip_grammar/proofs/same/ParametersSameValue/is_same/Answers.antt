-- Parameters are the same if they are written alike.
use Rattle.std.proofs.Common.{sym, ◌∙◌, ap}
use Rattle.sip_grammar.specs.WrittenParameters.{parameters_text}
use Rattle.sip_grammar.proofs.SameParameters.{same_parameters}
use Rattle.sip_grammar.proofs.same.ParametersSameValue.is_same.Goals as goal

pub returns : goal.returns
returns c =
    let one = c.as_text.ensures in
    let other = c.as_text-2.ensures in (
      (λ yes. same_parameters c.args.self.now c.args.other.now one.rules other.rules
          (sym one.value ∙ c.are_same_bytes.ensures.0 yes ∙ other.value)),
      λ same. c.are_same_bytes.ensures.1
          (one.value ∙ ap parameters_text same ∙ sym other.value),
    )
