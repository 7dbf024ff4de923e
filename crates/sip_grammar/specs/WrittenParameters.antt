-- The one text that is written for parameters (RFC 3261, section 7.3.1).
use Rattle.std.specs.Prelude.{ℕ, List, [], ◌++◌, Option, Some, None, codes}
use Rattle.std.specs.List.{flat_map}
use Rattle.sip_grammar.specs.declared.parameter.Parameter.{Parameter}

-- `=` and the value of a parameter that has one
abbrev pub value_text : Option (List ℕ) → List ℕ
value_text None = []
value_text (Some value) = codes "=" ++ value

-- `;name` or `;name=value`
unfoldable pub parameter_text : Parameter → List ℕ
parameter_text p = codes ";" ++ p.name ++ value_text p.value

-- parameters, one after the other
abbrev pub parameters_text : List Parameter → List ℕ
parameters_text parameters = flat_map parameter_text parameters
