-- `open_others`: each turn of the loop opens one more station.
use Rattle.sip_desk.specs.Lines.{IsPosterOf}
use Rattle.sip_udp.proofs.StationLines.{zip_added}
use Rattle.sip_udp.proofs.stations.open_others.Goals as goal

pub loop-agent-preserved : goal.loop-agent-preserved
loop-agent-preserved g c = (
  tt,
  tt,
  zip_added IsPosterOf (λ other. other.station.desk) c.args.own.now.desk
      c.loop-agent.stations.items c.add-in-loop-agent.new.items.items c.in_ok-station.station
      c.loop-agent.lines.items c.add-in-loop-agent-2.new.items.items c.in_ok-station.line
      c.in_ok-add-2.ensures c.in_ok-add-3.ensures c.loop-agent.invariant.2 c.in_ok-station.ensures,
)
