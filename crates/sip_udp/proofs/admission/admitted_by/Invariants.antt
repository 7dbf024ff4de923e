-- The loop of `admitted_by`: the events that were let in so far, and those that are left.
use Rattle.std.proofs.Common.{List}
use Rattle.std.specs.Vec.Iter.{into_iter_items}
use Rattle.sip_round.specs.Answers.{StandsFor}
use Rattle.sip_round.specs.declared.config.Config.{Config}
use Rattle.sip_round.specs.declared.round.Round.{Round}
use Rattle.sip_udp.specs.Admission.{shard_of}
use Rattle.sip_udp.proofs.Admitted.{LetsIn}
use Rattle.sip_udp.proofs.admission.admitted_by.Given as goal

abbrev pub invariant-loop-event : goal.invariant-loop-event
invariant-loop-event l =
    (config : Config) (rounds : List Round) → StandsFor shard_of l.agent config rounds
    → LetsIn config rounds l.limits l.load l.admitted.items (into_iter_items l.event-iterator)
    l.fn.events.items
