-- `push_rounds` writes the moment and the outputs of each round.
use Rattle.std.proofs.Common.{◌≡◌, ◌+◌, ◌++◌, ◌∷◌, [], take, ap, sym, ◌∙◌}
use Rattle.std.proofs.lemmas.List.{map_more, take_all}
use Rattle.sip_files.specs.Outputs.{round_outputs_text, told}
use Rattle.sip_files.proofs.Pushed.{one_more}
use Rattle.sip_files.proofs.outputs_file.push_rounds.Goals as goal

pub loop-moment-preserved : goal.loop-moment-preserved
loop-moment-preserved c =
    let rounds = c.args.rounds.now in
    let i = c.loop-moment.moment-index in
    let round = c.loop-moment-item.result in
    let more : told (take (i + 1) rounds) ≡ told (take i rounds) ++ (round.0, round.1.items) ∷ [] =
    map_more (λ r. (r.0, r.1.items)) rounds i round c.loop-moment-test.true
    ∙ ap (λ r. told (take i rounds) ++ (r.0, r.1.items) ∷ []) (sym c.loop-moment-item.is) in
    one_more (λ r. round_outputs_text r.0 r.1) _ _ _ _ _ _ more c.loop-moment.invariant
    (rw c.as_slice.ensures.value at c.in_ok-push_round.ensures)

pub returns : goal.returns
returns c = rw (take_all c.loop-moment.moment-index c.args.rounds.now c.loop-moment-test.false) at
    c.loop-moment.invariant
