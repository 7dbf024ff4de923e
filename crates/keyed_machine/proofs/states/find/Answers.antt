-- `find` gives what the map has for the key.
use Rattle.std.proofs.Common.{◌∙◌}
use Rattle.keyed_machine.proofs.SameKeys.{found_by_order}
use Rattle.keyed_machine.proofs.states.find.Goals as goal

pub returns : goal.returns
returns g c =
    c.get.ensures.value
    ∙ found_by_order g.K.PartialEq.eq g.K.Ord.cmp g.met.K.Ord.matches_eq
    c.args.states.now.entries c.args.key.now
