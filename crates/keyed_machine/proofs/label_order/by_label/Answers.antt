-- `by_label` gives the groups in the order of their labels, which is the only one.
use Rattle.std.proofs.Common.{rules}
use Rattle.std.specs.Ordering.{is_lt}
use Rattle.std.proofs.lemmas.List.MinMax.{ranks_by}
use Rattle.keyed_machine.proofs.Merged.{compares, merged}
use Rattle.keyed_machine.proofs.label_order.by_label.Goals as goal

pub returns-clause-in_order : goal.returns-clause-in_order
returns-clause-in_order g c =
    c.sort_unstable_by.ensures.sorted (λ one other. is_lt (g.L.Ord.cmp one.0 other.0))
    (ranks_by g.met.L.Ord.total (λ group. group.0))
    (compares _ _ _ (λ a r after called. search rules))

pub returns-clause-sorts : goal.returns-clause-sorts
returns-clause-sorts g c = λ all rises same.
    merged g.met.L.Ord.total c.args.told.items c.sort_unstable_by.new.self.items all
    (c.sort_unstable_by.ensures.sorted (λ one other. is_lt (g.L.Ord.cmp one.0 other.0))
    (ranks_by g.met.L.Ord.total (λ group. group.0))
    (compares _ _ _ (λ a r after called. search rules)))
    c.sort_unstable_by.ensures.permutation rises same
