-- The loop of `linked_of`: the last that is left goes before those that it took.
use Rattle.std.proofs.Common.{rules}
use Rattle.ordered_map.proofs.Inserts.{linked_step, nothing_left}
use Rattle.ordered_map.proofs.ordered_map.linked_of.Goals as goal

pub loop-key-preserved : goal.loop-key-preserved
loop-key-preserved g c =
    linked_step g.met.K.Eq.laws c.loop-key.entries.entries c.pop.new.self.entries
    c.loop-key.linked.entries c.put_first.new.map.entries c.args.entries.entries c.in-Some.key
    c.in-Some.value c.loop-key.invariant c.in-Some.ensures.entries c.len-length.ensures.unique
    c.in_ok-put_first.ensures

pub returns : goal.returns
returns g c =
    nothing_left c.loop-key.entries.entries c.loop-key.linked.entries c.args.entries.entries
    c.loop-key.invariant (search rules)
