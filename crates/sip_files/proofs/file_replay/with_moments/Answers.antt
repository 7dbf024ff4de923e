-- `with_moments` puts each answer with the moment of its round.
use Rattle.std.proofs.Common.{sym, ◌∙◌}
use Rattle.std.proofs.lemmas.List.{nil_from_length}
use Rattle.std.specs.Vec.Iter.{into_iter_items}
use Rattle.sip_files.proofs.Streams.{all_beside}
use Rattle.sip_files.proofs.file_replay.with_moments.Goals as goal

pub returns : goal.returns
returns c =
    let left = c.loop-outputs.outputs-iterator in
    all_beside _ _ _ _ _ (into_iter_items left) _ c.loop-outputs.invariant
    (nil_from_length (into_iter_items left) (sym left.rest.ok.0 ∙ c.in-None.ensures.steps.0))
