-- `tagged`: a party that isn't tagged has no parameter `tag`, so one may be added.
use Rattle.std.proofs.Common.{◌≡◌, false, Option, Some, None, refl, sym, ◌∙◌, is_some}
use Rattle.sip_message.specs.Response.{is_tagged}
use Rattle.sip_message.proofs.response.tagged.Goals as goal

is_none : {X : Type 0} (o : Option X) → is_some o ≡ false → o ≡ None
is_none None h = refl
is_none (Some x) h = absurd cc

pub with_tag-requires : goal.with_tag-requires
unfolding is_tagged
with_tag-requires c =
    rw (c.into_parameters.ensures, c.in_ok-clone-3.ensures.cases)
    (is_none _ (sym c.is_tagged.ensures ∙ c.if-is_tagged.false))
