-- `set_out_by` sets out all events of the round, whichever worker reads a run.
use Rattle.std.proofs.Common.{map}
use Rattle.sip_round.specs.Arrivals.{arrivals_from}
use Rattle.sip_round.specs.Steps.EventRuns.{arrivals_of_run}
use Rattle.sip_round.proofs.EventRuns.{of_pieces, whole_set_out}
use Rattle.sip_round.proofs.reading.set_out_by.Goals as goal

pub returns : goal.returns
returns g c =
    whole_set_out (λ run. arrivals_of_run run.job) c.in_ok-runs.runs.items
    (arrivals_from c.args.local c.args.round 1 c.args.events.now) c.in_ok-joined.field-0
    c.in_ok-runs.ensures.whole
    (c.in_ok-joined.ensures (map (λ run. arrivals_of_run run.job) c.in_ok-runs.runs.items)
    (of_pieces (λ run. arrivals_of_run run.job) c.in_ok-runs.runs.items c.in_ok-gather.field-0.items
    (c.dones_in_order.ensures.in_order c.in_ok-runs.runs.items c.in_ok-dones.dones.items
    c.in_ok-gather.field-0.items c.in_ok-runs.ensures.numbered c.in_ok-dones.ensures.each_once
    c.in_ok-gather.ensures)))
