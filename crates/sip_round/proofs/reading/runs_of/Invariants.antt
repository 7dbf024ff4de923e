-- The loop of `runs_of`: the runs so far are numbered, and are the arrivals of the events so far.
use Rattle.std.proofs.Common.{◌≡◌, ◌+◌, ◌++◌, length}
use Rattle.std.specs.List.{flat_map}
use Rattle.std.specs.Slice.Iter.{chunks_rest}
use Rattle.sip_workers.specs.Ran.{IsNumbered}
use Rattle.sip_round.specs.Arrivals.{arrivals_from}
use Rattle.sip_round.specs.Steps.EventRuns.{arrivals_of_run}
use Rattle.sip_round.proofs.reading.runs_of.Given as goal

abbrev pub invariant-loop-run : goal.invariant-loop-run
invariant-loop-run l =
    goal.iterator-loop-run.can_next l.run-iterator
    × goal.iterator-loop-run.is_finite l.run-iterator
    × (l.before + length (chunks_rest l.run-iterator) ≡ length l.fn.events)
    × IsNumbered l.runs.items
    × (flat_map (λ run. arrivals_of_run run.job) l.runs.items
    ++ arrivals_from l.fn.local l.fn.round (l.before + 1) (chunks_rest l.run-iterator)
    ≡ arrivals_from l.fn.local l.fn.round 1 l.fn.events)
