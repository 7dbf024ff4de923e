-- Parameters in one text, which is the one that is written for them (RFC 3261, section 7.3.1).
use Rattle.std.specs.Prelude.{◌≡◌, ◌<◌, ℕ, length, Bool, true, IsTrue, ◌&&◌, List, [], ◌∷◌, Option, Some, None, unwrap_or}
use Rattle.std.specs.List.{list_all}
use Rattle.sip_text.specs.Parameter.{is_parameter_value}
use Rattle.sip_text.specs.Pieces.{parameter_now}
use Rattle.sip_text.specs.Token.{is_token}
use Rattle.sip_text.specs.declared.parameters.ParameterText.{ParameterText}
use Rattle.sip_grammar.specs.ParameterValues.{parameter_of, all_parameters}
use Rattle.sip_grammar.specs.WrittenParameters.{parameters_text}
use Rattle.sip_grammar.specs.declared.parameter.Parameter.{Parameter}

-- the parameters that are read from a text
unfoldable pub listed : List ℕ → List Parameter
listed text = unwrap_or (all_parameters text) []

-- no value, or a value that follows the rule
abbrev pub is_good_value : Option (List ℕ) → Bool
is_good_value None = true
is_good_value (Some value) = is_parameter_value value

-- the name and the value follow the rules
abbrev pub is_good : Parameter → Bool
is_good p = is_token p.name && is_good_value p.value

-- all parameters of a text follow the rules
abbrev pub are_good : List ℕ → Bool
are_good text = list_all is_good (listed text)

-- The text is the one that is written for its parameters, which follow the rules.
pub record IsKept (text : List ℕ) : Type 0 where
  pub same : parameters_text (listed text) ≡ text
  pub rules : IsTrue (are_good text)

-- nothing, or a semicolon and what follows it
abbrev pub stored : Option (List ℕ) → List ℕ
stored None = []
stored (Some behind) = 59 ∷ behind

-- The parameters of a text are this one, and those of the text after it.
pub record IsNext (text : List ℕ) (p : Parameter) (after : List ℕ) : Type 0 where
  pub list : listed text ≡ p ∷ listed after
  pub kept : IsKept after
  pub shorter : length after < length text

-- the parameter with these parts of a text
abbrev pub as_parameter : ParameterText → Parameter
as_parameter p = parameter_of (parameter_now p)
