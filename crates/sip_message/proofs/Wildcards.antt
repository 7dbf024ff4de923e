-- No text is written of parameters exactly if there are none.
use Rattle.std.proofs.Common.{◌≡◌, false, List, [], ◌∷◌, ◌++◌, length, refl, sym, ◌∙◌, arith, ne_eqb}
use Rattle.std.specs.Prelude.{nat_eq}
use Rattle.sip_grammar.specs.declared.parameter.Parameter.{Parameter}
use Rattle.sip_grammar.specs.WrittenParameters.{value_text, parameter_text, parameters_text}

none_of_more : {X : Type 0} (x : X) (xs : List X) → nat_eq (length (x ∷ xs)) 0 ≡ false
none_of_more x xs = ne_eqb (length (x ∷ xs)) 0 (λ e. absurd (omega (arith, e)))

pub no_parameters : (parameters : List Parameter)
    → nat_eq (length (parameters_text parameters)) 0 ≡ nat_eq (length parameters) 0
unfolding parameter_text
no_parameters [] = refl
no_parameters (p ∷ ps) =
    none_of_more 59 ((p.name ++ value_text p.value) ++ parameters_text ps)
    ∙ sym (none_of_more p ps)
