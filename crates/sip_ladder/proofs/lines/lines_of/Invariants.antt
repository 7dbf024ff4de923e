-- The loop of `lines_of`: what was shown, and what is left to show.
use Rattle.std.proofs.Common.{length, map}
use Rattle.sip_ladder.specs.Shapes.{happenings}
use Rattle.sip_ladder.proofs.Shown.{Left}
use Rattle.sip_ladder.proofs.lines.lines_of.Given as goal

abbrev pub invariant-loop-round : goal.invariant-loop-round
invariant-loop-round l =
    Left (happenings l.rounds (map (λ outputs. outputs.items) l.answers)) l.lines.items
    l.before.names.keys
    (happenings l.rounds_left (map (λ outputs. outputs.items) l.answers_left))

abbrev pub decreases-loop-round : goal.decreases-loop-round
decreases-loop-round l = length l.rounds_left
