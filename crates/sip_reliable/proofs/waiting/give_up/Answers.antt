-- `give_up`: each turn of the loop gives up one more response.
use Rattle.std.proofs.Common.{sym, ap, ◌∙◌}
use Rattle.std.specs.List.{slice_set}
use Rattle.std.proofs.lemmas.List.Edits.{map_over_more}
use Rattle.sip_reliable.specs.Provisional.{given_up}
use Rattle.sip_reliable.proofs.waiting.give_up.Goals as goal

pub loop-one-preserved : goal.loop-one-preserved
loop-one-preserved c =
    let some = c.loop-one.waiting in
    let i = c.loop-one.one-index in
    let one = c.one-item.result in
    ap (slice_set some i) (c.give_up.ensures ∙ ap given_up (sym c.one-item.is))
    ∙ map_over_more given_up c.args.waiting.now some i one c.loop-one-test.true
    c.loop-one.invariant c.one-item.is
