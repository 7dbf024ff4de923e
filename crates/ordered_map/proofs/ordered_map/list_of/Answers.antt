-- The loop of `list_of`: the first that is left is one more in the list.
use Rattle.std.proofs.Common.{sym, ◌∙◌}
use Rattle.ordered_map.proofs.Inserts.{list_step}
use Rattle.ordered_map.proofs.ordered_map.list_of.Goals as goal

pub loop-key-preserved-in_ok-insert : goal.loop-key-preserved-in_ok-insert
loop-key-preserved-in_ok-insert g c =
    rw (c.in_ok-insert.ensures.entries, c.pop_mru.ensures.entries)
    (list_step g.met.K.Eq.laws c.loop-key.entries.entries c.loop-key.linked.entries
    c.args.linked.entries c.in-Some.key c.in-Some.value c.loop-key.invariant
    (sym c.pop_mru.ensures.value ∙ c.in-Some.is) c.len-length.ensures.valid.0)

pub loop-key-preserved : goal.loop-key-preserved
loop-key-preserved g c =
    rw (c.in_ok-insert.ensures.entries, c.pop_mru.ensures.entries)
    (list_step g.met.K.Eq.laws c.loop-key.entries.entries c.loop-key.linked.entries
    c.args.linked.entries c.in-Some.key c.in-Some.value c.loop-key.invariant
    (sym c.pop_mru.ensures.value ∙ c.in-Some.is) c.len-length.ensures.valid.0)
