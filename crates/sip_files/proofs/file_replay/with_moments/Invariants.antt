-- The loop of `with_moments`: the pairs made so far, and the rounds and answers that are left.
use Rattle.std.specs.Vec.Iter.{into_iter_items}
use Rattle.sip_files.proofs.Streams.{BesideSoFar}
use Rattle.sip_files.proofs.file_replay.with_moments.Given as goal

abbrev pub invariant-loop-outputs : goal.invariant-loop-outputs
invariant-loop-outputs l =
    BesideSoFar (λ round. round.moment)
    (λ outputs. outputs.items) l.fn.rounds l.left l.fn.answers.items
    (into_iter_items l.outputs-iterator) l.made.items
