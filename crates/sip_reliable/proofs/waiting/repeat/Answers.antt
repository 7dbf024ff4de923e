-- `repeat`: each turn of the loop repeats one more response, if it is due.
use Rattle.std.proofs.Common.{sym, ap, ◌∙◌}
use Rattle.std.specs.List.{slice_set}
use Rattle.std.proofs.lemmas.List.Edits.{map_over_more}
use Rattle.sip_reliable.specs.Provisional.{after_repeat}
use Rattle.sip_reliable.proofs.waiting.repeat.Goals as goal

pub loop-one-preserved : goal.loop-one-preserved
loop-one-preserved c =
    let some = c.loop-one.waiting in
    let i = c.loop-one.one-index in
    let one = c.one-item.result in
    let change = after_repeat c.args.now in
    ap (slice_set some i) (c.repeat.ensures ∙ ap change (sym c.one-item.is))
    ∙ map_over_more change c.args.waiting.now some i one c.loop-one-test.true
    c.loop-one.invariant c.one-item.is
