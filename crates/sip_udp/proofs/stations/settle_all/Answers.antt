-- `settle_all`: each end is that of the line of its station.
use Rattle.std.proofs.Common.{arith}
use Rattle.sip_udp.specs.Stations.{EndsStation}
use Rattle.sip_udp.proofs.StationLines.{last_end, own_end}
use Rattle.sip_udp.proofs.stations.settle_all.Goals as goal

pub settle-requires : goal.settle-requires
settle-requires c =
    (last_end EndsStation (λ other. other.station.desk) c.args.own.now c.loop-other.others.items
    c.pop.new.self.items c.in-Some.other c.loop-other.ends.items c.pop-in-Some.new.self.items
    c.in-Some-pop.end c.in-Some.ensures.items c.in-Some-pop.ensures.items c.loop-other.invariant).1

pub loop-other-preserved : goal.loop-other-preserved
loop-other-preserved c =
    (last_end EndsStation (λ other. other.station.desk) c.args.own.now c.loop-other.others.items
    c.pop.new.self.items c.in-Some.other c.loop-other.ends.items c.pop-in-Some.new.self.items
    c.in-Some-pop.end c.in-Some.ensures.items c.in-Some-pop.ensures.items c.loop-other.invariant).0

pub settle-requires-in-Some-pop-2 : goal.settle-requires-in-Some-pop-2
settle-requires-in-Some-pop-2 c =
    own_end EndsStation (λ other. other.station.desk) c.args.own.now c.loop-other.others.items
    c.loop-other.ends.items c.pop-2.new.self.items c.in-Some-pop-2.end (omega (
      arith,
      c.in_default.ensures.cases.0,
      c.loop-other.others.ok.0,
    ))
    c.in-Some-pop-2.ensures.items c.loop-other.invariant
