-- `hold` changes the state of one key.
use Rattle.std.proofs.Common.{Some}
use Rattle.keyed_machine.proofs.SameKeys.{changed_by_order}
use Rattle.keyed_machine.proofs.states.hold.Goals as goal

pub returns : goal.returns
returns g c =
    changed_by_order g.K.PartialEq.eq g.K.Ord.cmp g.met.K.Ord.matches_eq
    c.args.states.now.entries c.insert.new.self.entries
    c.args.key (Some c.args.state) c.in_ok-insert.ensures.updates.0
