-- `add_round` adds the lines of a round's events, and then those of its outputs.
use Rattle.std.proofs.Common.{map}
use Rattle.sip_ladder.specs.Shapes.{Comes, IsGiven}
use Rattle.sip_ladder.proofs.Shown.{both_ok}
use Rattle.sip_ladder.proofs.lines.add_round.Goals as goal

pub returns : goal.returns
returns c =
    both_ok (map (Comes c.args.round.now.moment) c.args.round.now.events)
    (map (IsGiven c.args.round.now.moment) c.args.outputs.now) _ _ _ _ _ _ c.add_outputs.result
    (rw c.as_slice.ensures at c.in_ok-add_events.ensures) c.add_outputs.ensures
