-- Lists of parameters (RFC 3261, section 7.3.1). If several have the same name, the first counts.
use Rattle.std.specs.Prelude.{ℕ, List, [], ◌∷◌, Option, Some, None, find, unwrap_or, if◌then◌else◌}
use Rattle.std.specs.Str.{str_eq_ignore_ascii_case}
use Rattle.sip_grammar.specs.declared.parameter.Parameter.{Parameter}

-- the first parameter of this name, compared without case
abbrev pub parameter_named : List ℕ → List Parameter → Option Parameter
parameter_named name parameters = find (λ p. str_eq_ignore_ascii_case p.name name) parameters

-- a parameter's value, empty if there is none
abbrev pub value_or_nothing : Option Parameter → List ℕ
value_or_nothing None = []
value_or_nothing (Some p) = unwrap_or p.value []

-- the value of the first parameter of this name, empty if there is none
unfoldable pub value_named : List ℕ → List Parameter → List ℕ
value_named name parameters = value_or_nothing (parameter_named name parameters)

-- the first parameter of this name gets the value; if there is none, a new one is added at the end
abbrev pub with_value : List ℕ → List ℕ → List Parameter → List Parameter
with_value name value [] = (record { name = name; value = Some value }) ∷ []
with_value name value (p ∷ ps) =
    if str_eq_ignore_ascii_case p.name name
    then (record { name = p.name; value = Some value }) ∷ ps
    else p ∷ with_value name value ps
