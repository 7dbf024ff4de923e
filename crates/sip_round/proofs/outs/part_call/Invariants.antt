-- The loop of `part_call`: outputs and commands so far, with those of what is left.
use Rattle.std.proofs.Common.{◌≡◌, ◌++◌}
use Rattle.std.specs.List.{flat_map}
use Rattle.std.specs.Vec.Iter.{into_iter_items}
use Rattle.sip_round.specs.Outputs.{command_of}
use Rattle.sip_round.specs.Steps.Form.{call_outputs_as}
use Rattle.sip_round.proofs.outs.part_call.Given as goal

abbrev pub invariant-loop-out : goal.invariant-loop-out
invariant-loop-out g l =
    let given = call_outputs_as g.F.Form.form l.place in
    (l.outputs.items ++ flat_map given (into_iter_items l.out-iterator)
    ≡ l.fn.outputs.items ++ flat_map given l.fn.outs.items)
    × (l.commands.items ++ flat_map command_of (into_iter_items l.out-iterator)
    ≡ l.fn.commands.items ++ flat_map command_of l.fn.outs.items)
