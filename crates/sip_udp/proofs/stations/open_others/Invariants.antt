-- The loop of `open_others`: each line so far is that of its station.
use Rattle.std.proofs.Common.{map, ◌∷◌}
use Rattle.std.specs.List.{AllZip}
use Rattle.sip_desk.specs.Lines.{IsPosterOf}
use Rattle.sip_udp.proofs.stations.open_others.Given as goal

abbrev pub invariant-loop-agent : goal.invariant-loop-agent
invariant-loop-agent g l =
    (goal.iterator-loop-agent g).can_next l.agent-iterator
    × (goal.iterator-loop-agent g).is_finite l.agent-iterator
    × AllZip IsPosterOf (l.own.desk ∷ map (λ other. other.station.desk) l.stations.items)
    l.lines.items
