-- The loop of `joined`: what was joined so far, with the runs left, is everything.
use Rattle.std.specs.Prelude.{List}
use Rattle.std.specs.List.{AllZip}
use Rattle.std.specs.Vec.Iter.{into_iter_items}
use Rattle.sip_message.specs.declared.id.Id.{Id}
use Rattle.sip_round.specs.Arrivals.{Arrival}
use Rattle.sip_round.proofs.EventRuns.{IsOf, JoinsLeft}
use Rattle.sip_round.proofs.reading.joined.Given as goal

abbrev pub invariant-loop-run : goal.invariant-loop-run
invariant-loop-run l =
    (arrivals : List (List (Id × Arrival))) → AllZip IsOf arrivals l.fn.runs.items
    → JoinsLeft arrivals (into_iter_items l.run-iterator) l.items.items l.waiting.items
