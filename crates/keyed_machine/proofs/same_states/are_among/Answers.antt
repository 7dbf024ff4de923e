-- A map finds each of its own entries.
use Rattle.keyed_machine.proofs.SameStates.{among_own}
use Rattle.keyed_machine.proofs.same_states.are_among.Goals as goal

pub returns-clause-own : goal.returns-clause-own
returns-clause-own g c =
    among_own g.M.Key.PartialEq.eq g.M.Key.Ord.cmp g.met.M.Key.Ord.matches_eq
    c.args.states.now.entries c.iter.ensures.found
