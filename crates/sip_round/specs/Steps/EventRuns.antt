-- Steps before the first phase: a round's events, cut into runs.
use Rattle.std.specs.Prelude.{◌+◌, List}
use Rattle.sip_message.specs.declared.id.Id.{Id}
use Rattle.sip_round.specs.Arrivals.{Arrival, arrivals_from}
use Rattle.sip_round.specs.declared.event_run.EventRun.{EventRun}

-- the arrivals of a run, each at its place in the round
abbrev pub arrivals_of_run : EventRun → List (Id × Arrival)
arrivals_of_run run = arrivals_from run.local run.round (run.before + 1) run.events.now
