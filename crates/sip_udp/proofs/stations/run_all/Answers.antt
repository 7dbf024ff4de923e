-- `run_all`: where there are no others, each keeps its line.
use Rattle.sip_udp.specs.Stations.{KeepsItsLine}
use Rattle.sip_udp.proofs.Lined.{zip_same}
use Rattle.sip_udp.proofs.StationLines.{keeps_same}
use Rattle.sip_udp.proofs.stations.run_all.Goals as goal

pub returns-then-is_empty-clause-others : goal.returns-then-is_empty-clause-others
returns-then-is_empty-clause-others g c = zip_same KeepsItsLine keeps_same c.args.others.items
