-- The loop of `send`: outputs so far, with those of what is left.
use Rattle.std.proofs.Common.{◌≡◌, ◌++◌}
use Rattle.std.specs.List.{flat_map}
use Rattle.std.specs.Vec.Iter.{into_iter_items}
use Rattle.sip_round.specs.Steps.Form.{sent_as}
use Rattle.sip_round.proofs.outs.send.Given as goal

abbrev pub invariant-loop-out : goal.invariant-loop-out
invariant-loop-out g l =
    let given = sent_as g.F.Form.form 0 in
    l.outputs.items ++ flat_map given (into_iter_items l.out-iterator)
    ≡ l.fn.outputs.items ++ flat_map given l.fn.outs.items
