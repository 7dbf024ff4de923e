-- A tag that isn't empty is a token.
use Rattle.std.proofs.Common.{◌≡◌, ℕ, true, false, List, length, Option, Some, None, IsTrue, codes}
use Rattle.std.specs.Prelude.{◌==◌}
use Rattle.sip_text.specs.Token.{is_token}
use Rattle.sip_grammar.specs.declared.parameter.Parameter.{Parameter}
use Rattle.sip_grammar.specs.Parameters.{parameter_named, value_named, value_or_nothing}
use Rattle.sip_grammar.specs.Tag.{has_good_tag, is_good_tag, is_token_value, tag_in}

of_value : (value : Option (List ℕ)) (name : List ℕ)
    → (length (value_or_nothing (Some record { name = name; value = value })) == 0) ≡ false
    → is_token_value value ≡ true → is_token
    (value_or_nothing (Some record { name = name; value = value })) ≡ true
of_value None name some good = absurd cc
of_value (Some value) name some good = good

of_parameter : (p : Option Parameter) → (length (value_or_nothing p) == 0) ≡ false
    → is_good_tag p ≡ true → is_token (value_or_nothing p) ≡ true
of_parameter None some good = absurd cc
of_parameter (Some p) some good = of_value p.value p.name some good

pub tag_is_token : (parameters : List Parameter) → (length (tag_in parameters) == 0) ≡ false
    → IsTrue (has_good_tag parameters) → IsTrue (is_token (tag_in parameters))
unfolding has_good_tag value_named
tag_is_token parameters some good =
    of_parameter (parameter_named (codes "tag") parameters) some good
