-- The loop of `settle_all`: the ends that are left belong to the lines of the stations that are left.
use Rattle.std.proofs.Common.{map, ◌∷◌, length}
use Rattle.std.specs.List.{AllZip}
use Rattle.sip_udp.specs.Stations.{EndsStation}
use Rattle.sip_udp.proofs.stations.settle_all.Given as goal

abbrev pub invariant-loop-other : goal.invariant-loop-other
invariant-loop-other l =
    AllZip EndsStation (l.own ∷ map (λ other. other.station.desk) l.others.items) l.ends.items

abbrev pub decreases-loop-other : goal.decreases-loop-other
decreases-loop-other l = length l.others.items
