-- `via_parameters`: a branch is a token, so it may be the value of a parameter.
use Rattle.std.proofs.Common.{ℕ, List, IsTrue, subst}
use Rattle.std.specs.Borrow.{Bor}
use Rattle.std.proofs.lemmas.Bool.{and_parts}
use Rattle.std.proofs.lemmas.Option.{same_Some}
use Rattle.sip_text.specs.Parameter.{is_parameter_value}
use Rattle.sip_text.specs.Token.{is_token}
use Rattle.sip_message.specs.Via.{has_cookie}
use Rattle.sip_grammar.proofs.Bytes.{token_is_value}
use Rattle.sip_dialog.proofs.own_headers.via_parameters.Goals as goal

pub with-requires-2-clause-value : goal.with-requires-2-clause-value
with-requires-2-clause-value c =
    let is = and_parts (is_token c.args.branch.now) (has_cookie c.args.branch.now)
    c.as_slice.ensures.rule in
    λ x e. subst (λ (t : Bor (List ℕ)). IsTrue (is_parameter_value t.now))
    (same_Some c.as_slice.result x e)
    (rw c.as_slice.ensures.value (token_is_value _ is.0))
