-- Tables hold the same if their maps do.
use Rattle.std.proofs.Common.{Some, ◌∙◌, sym, ap}
use Rattle.keyed_machine.proofs.SameStates.{tables_same}
use Rattle.keyed_machine.proofs.table.Table.holds_the_same.Goals as goal

pub returns-in-Some-Some : goal.returns-in-Some-Some
returns-in-Some-Some g c =
    tables_same g.M.Key.Ord.cmp c.hold_the_same.result c.args.self.now c.args.other.now
    c.live.inside.states.entries c.other-in-Some-Some.inside.states.entries
    (ap Some c.live.view_is ∙ sym c.in-Some-Some.is-0 ∙ c.self.view_is)
    (ap Some c.other-in-Some-Some.view_is ∙ sym c.in-Some-Some.is-1 ∙ c.other.view_is)
    c.hold_the_same.ensures
