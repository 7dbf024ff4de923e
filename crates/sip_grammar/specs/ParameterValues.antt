-- Parameters (RFC 3261, section 7.3.1).
use Rattle.std.specs.Prelude.{ℕ, List, Option}
use Rattle.sip_text.specs.Forms.{Told, told, Split, split}
use Rattle.sip_text.specs.Parameter.{IsParameter, parameter_from, Parameters, parameters_from}
use Rattle.sip_text.specs.declared.separator.Separator.TheVariants.{Byte}
use Rattle.sip_grammar.specs.declared.parameter.Parameter.{Parameter}

-- a parameter of these parts
abbrev pub parameter_of : List ℕ × Option (List ℕ) → Parameter
parameter_of parts = record { name = parts.0; value = parts.1 }

-- one parameter
abbrev pub OneParameter : Parameter → List ℕ → Type 0
OneParameter parameter text = Told parameter_of IsParameter parameter text

-- what reading it finds
abbrev pub one_parameter : List ℕ → Option Parameter
one_parameter text = told parameter_of parameter_from text

-- one or more, with semicolons between them
abbrev pub ManyParameters : List Parameter → List ℕ → Type 0
ManyParameters parameters text = Split (Byte 59) OneParameter parameters text

-- what reading parameters between semicolons finds
abbrev pub many_parameters : List ℕ → Option (List Parameter)
many_parameters text = split (Byte 59) one_parameter text

-- no parameters, or a semicolon and such parameters
abbrev pub AllParameters : List Parameter → List ℕ → Type 0
AllParameters parameters text = Parameters OneParameter parameters text

-- what reading nothing, or parameters that each follow a semicolon, finds
abbrev pub all_parameters : List ℕ → Option (List Parameter)
all_parameters text = parameters_from one_parameter text
