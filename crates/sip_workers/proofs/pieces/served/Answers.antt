-- `served`: what each seat gives back is what its contract says.
use Rattle.std.proofs.Common.{arith}
use Rattle.sip_workers.specs.Seats.{Serves}
use Rattle.sip_workers.proofs.Ends.{zip_at}
use Rattle.sip_workers.proofs.pieces.served.Goals as goal

pub returns : goal.returns
returns g c =
    let each = c.in_ok-results.ensures.each in
    zip_at (Serves g.J.Job.gives) c.args.seats.items c.in_ok-results.results.items
    (omega (arith, c.in_ok-results.ensures.len, c.in_ok-results.results.ok, c.args.seats.ok))
    (λ i d below. let one = (each i d below).1 in (one.job, one.job_is, one.call.met))
