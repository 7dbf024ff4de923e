-- `Table::live` is the number of keys that have a state.
use Rattle.std.proofs.Common.{Some, None, ◌∙◌, sym, ap, subst}
use Rattle.std.proofs.lemmas.Map.Keys.{IsDistinct-from_sorted}
use Rattle.std.specs.List.{IsDistinct}
use Rattle.std.specs.Map.{keys_of}
use Rattle.keyed_machine.proofs.Held.{count_live}
use Rattle.keyed_machine.proofs.Ordered.{ordered_nil}
use Rattle.keyed_machine.proofs.table.Table.live.Goals as goal

pub returns-in-None-clause-counts : goal.returns-in-None-clause-counts
returns-in-None-clause-counts g c =
    count_live g.met.M.Key.Ord.total g.met.M.StateMachine.exact None c.args.self.now
    (sym c.in-None.is ∙ c.self.view_is)
    (IsDistinct-from_sorted g.M.Key.Ord.cmp _ (ordered_nil g.M.Key.Ord.cmp))

pub returns-in-Some-clause-counts : goal.returns-in-Some-clause-counts
returns-in-Some-clause-counts g c = λ keys covers.
    c.len.ensures.len
    ∙ count_live g.met.M.Key.Ord.total g.met.M.StateMachine.exact
    (Some c.live.inside.states.entries) c.args.self.now
    (ap Some c.live.view_is ∙ sym c.in-Some.is ∙ c.self.view_is)
    (subst (λ same. IsDistinct same (keys_of c.live.inside.states.entries))
    (λ i x y. g.met.M.Key.Ord.matches_eq x y i) c.len.ensures.unique) keys covers
