-- `leaves_the_same`: the agents have the same cut, and as many shards.
use Rattle.std.proofs.Common.{◌∙◌, sym, true≢false}
use Rattle.sip_stream.proofs.Carried.{carried, others}
use Rattle.sip_stream.proofs.equivalence.leaves_the_same.Goals as goal

pub returns-then-holds_the_same-clause-long : goal.returns-then-holds_the_same-clause-long
returns-then-holds_the_same-clause-long g c =
    carried g.C.Cut.shard_of c.in_ok-after_long.after_long c.in_ok-after_short.after_short
    (c.holds_the_same.ensures.stands c.if-holds_the_same.true (g.C.OneCut.alike _ _)) _
    c.in_ok-after_long.ensures.stands

pub returns-clause-none : goal.returns-clause-none
returns-clause-none g c =
    others g.C.Cut.shard_of c.in_ok-after_long.after_long c.in_ok-after_short.after_short
    (λ config other_config rounds other_rounds s t same.
    true≢false (sym (c.holds_the_same.ensures.same (g.C.OneCut.alike _ _)
    (c.in_ok-after_long.ensures.count ∙ sym c.in_ok-after_short.ensures.count) config other_config
    rounds other_rounds s t same) ∙ c.if-holds_the_same.false)) _ _
    c.in_ok-after_long.ensures.stands c.in_ok-after_short.ensures.stands
