-- The rules for a parameter (RFC 3261, section 7.3.1).
use Rattle.std.specs.Prelude.{IfSome, IsTrue}
use Rattle.sip_text.specs.Parameter.{is_parameter_value}
use Rattle.sip_text.specs.Token.{is_token}
use Rattle.sip_grammar.specs.declared.parameter.Parameter.{Parameter}

pub record IsParameter (p : Parameter) : Type 0 where
  pub name : IsTrue (is_token p.name)
  pub value : IfSome p.value (λ v. IsTrue (is_parameter_value v))
