-- `run_others`: each station keeps its line.
use Rattle.std.proofs.Common.{arith}
use Rattle.sip_udp.specs.Stations.{KeepsItsLine}
use Rattle.sip_udp.proofs.StationLines.{zip_at}
use Rattle.sip_udp.proofs.other_station.run_others.Goals as goal

pub returns : goal.returns
returns g c =
    let each = c.in_ok-ran.ensures.each in
    zip_at KeepsItsLine c.args.others.items c.in_ok-ran.ran.items
    (omega (arith, c.in_ok-ran.ensures.len, c.in_ok-ran.ran.ok, c.args.others.ok))
    (λ i d below. let one = (each i d below).1 in (one.job, one.job_is, one.call.met))
