-- `take_entry` takes one key out.
use Rattle.std.proofs.Common.{None, ◌∙◌}
use Rattle.keyed_machine.proofs.SameKeys.{changed_by_order, found_by_order}
use Rattle.keyed_machine.proofs.states.take_entry.Goals as goal

pub returns-clause-state : goal.returns-clause-state
returns-clause-state g c =
    c.remove_entry.ensures.value
    ∙ found_by_order g.K.PartialEq.eq g.K.Ord.cmp g.met.K.Ord.matches_eq
    c.args.states.now.entries c.args.key.now

pub returns-clause-states : goal.returns-clause-states
returns-clause-states g c =
    changed_by_order g.K.PartialEq.eq g.K.Ord.cmp g.met.K.Ord.matches_eq
    c.args.states.now.entries
    c.remove_entry.new.self.entries c.args.key.now None c.remove_entry.ensures.updates.0
