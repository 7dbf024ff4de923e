-- `parameters_between` gives the parameters of the text: one turn of the loop reads one, and the
-- text gets shorter.
use Rattle.std.proofs.Common.{◌≡◌, Some, None, sym, ap, ◌∙◌}
use Rattle.std.specs.Option.{option_copied, option_map}
use Rattle.sip_text.specs.Parameter.{parameter_from}
use Rattle.sip_text.specs.declared.separator.Separator.TheVariants.{Byte}
use Rattle.sip_grammar.specs.ListedParameters.{as_parameter}
use Rattle.sip_grammar.specs.Steps.First.{first}
use Rattle.sip_grammar.specs.ParameterValues.{one_parameter, parameter_of}
use Rattle.sip_grammar.proofs.Firsts.{first_fails, first_is_last, first_is_read, first_shorter, first_told, told_first}
use Rattle.sip_header_values.proofs.parameter.parameters_between.Goals as goal

pub loop-parameter-smaller : goal.loop-parameter-smaller
loop-parameter-smaller c =
    let found : first (Byte 59) one_parameter c.loop-parameter.rest.now
    ≡ Some (as_parameter c.in-Some.parameter, Some c.in-Some-after.after.now) =
    first_told (Byte 59) parameter_of parameter_from c.loop-parameter.rest.now
    ∙ ap (option_map (told_first parameter_of)) (sym c.in-Some.ensures.exact)
    ∙ ap (λ o. Some (as_parameter c.in-Some.parameter, option_copied o)) c.in-Some-after.is in
    first_shorter (Byte 59) one_parameter c.loop-parameter.rest.now (as_parameter c.in-Some.parameter)
    c.in-Some-after.after.now found

pub loop-parameter-preserved : goal.loop-parameter-preserved
loop-parameter-preserved c =
    let found : first (Byte 59) one_parameter c.loop-parameter.rest.now
    ≡ Some (as_parameter c.in-Some.parameter, Some c.in-Some-after.after.now) =
    first_told (Byte 59) parameter_of parameter_from c.loop-parameter.rest.now
    ∙ ap (option_map (told_first parameter_of)) (sym c.in-Some.ensures.exact)
    ∙ ap (λ o. Some (as_parameter c.in-Some.parameter, option_copied o)) c.in-Some-after.is in
    rw c.in_ok-parameters-2.ensures
    (first_is_read (Byte 59) one_parameter c.loop-parameter.parameters c.loop-parameter.rest.now
    c.in-Some-after.after.now (as_parameter c.in-Some.parameter) _ found c.loop-parameter.invariant)

pub returns-in-None : goal.returns-in-None
returns-in-None c =
    let found : first (Byte 59) one_parameter c.loop-parameter.rest.now
    ≡ Some (as_parameter c.in-Some.parameter, None) =
    first_told (Byte 59) parameter_of parameter_from c.loop-parameter.rest.now
    ∙ ap (option_map (told_first parameter_of)) (sym c.in-Some.ensures.exact)
    ∙ ap (λ o. Some (as_parameter c.in-Some.parameter, option_copied o)) c.in-None.is in
    rw c.in_ok-parameters-2.ensures
    (first_is_last (Byte 59) one_parameter c.loop-parameter.parameters c.loop-parameter.rest.now
    (as_parameter c.in-Some.parameter) _ found c.loop-parameter.invariant)

pub returns : goal.returns
returns c =
    let none : first (Byte 59) one_parameter c.loop-parameter.rest.now ≡ None =
    first_told (Byte 59) parameter_of parameter_from c.loop-parameter.rest.now
    ∙ ap (option_map (told_first parameter_of)) (sym c.in_default.ensures.exact) in
    first_fails (Byte 59) one_parameter c.loop-parameter.parameters c.loop-parameter.rest.now _ none
    c.loop-parameter.invariant
