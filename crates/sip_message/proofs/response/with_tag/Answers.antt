-- `with_tag`: the parameters with the tag at the end still have a token as their tag.
use Rattle.std.proofs.Common.{ℕ, List, IsTrue, subst}
use Rattle.std.specs.Borrow.{Bor}
use Rattle.std.proofs.lemmas.Option.{same_Some}
use Rattle.sip_text.specs.Parameter.{is_parameter_value}
use Rattle.sip_grammar.proofs.Bytes.{token_is_value}
use Rattle.sip_message.proofs.Tags.{good_tag_added}
use Rattle.sip_message.proofs.response.with_tag.Goals as goal

pub with-requires-clause-value : goal.with-requires-clause-value
with-requires-clause-value c =
    λ x e. subst (λ (t : Bor (List ℕ)). IsTrue (is_parameter_value t.now))
    (same_Some c.as_slice.result x e)
    (rw c.as_slice.ensures.value (token_is_value _ c.as_slice.ensures.rule))

pub from_parameters-requires : goal.from_parameters-requires
from_parameters-requires c =
    rw (c.in_ok-all.ensures, c.as_slice.ensures.value)
    (good_tag_added c.args.parameters c.args.tag.now c.requires c.as_slice.ensures.rule)
