-- The loop of `put_by_place`: outputs and items so far, with those of the events left.
use Rattle.std.proofs.Common.{◌≡◌, ◌++◌}
use Rattle.std.specs.List.{flat_map}
use Rattle.std.specs.Vec.Iter.{into_iter_items}
use Rattle.keyed_machine.specs.Groups.{groups}
use Rattle.sip_round.specs.Outputs.{raised_of}
use Rattle.sip_round.specs.Steps.Form.{sent_as}
use Rattle.sip_round.specs.Steps.Waiting.{by_event}
use Rattle.sip_round.proofs.waiting.put_by_place.Given as goal

abbrev pub invariant-loop-id : goal.invariant-loop-id
invariant-loop-id g l =
    let given = sent_as g.F.Form.form in
    (l.outputs.items ++ flat_map (λ w. flat_map (given (w.0).place) w.1)
    (by_event (into_iter_items l.id-iterator) (groups (into_iter_items l.said)))
    ≡ l.fn.outputs.items ++ flat_map (λ w. flat_map (given (w.0).place) w.1)
    (by_event l.fn.waiting.items (groups l.fn.said.items)))
    × (l.items.items ++ flat_map (λ w. flat_map (raised_of w.0) w.1 ++ w.2)
    (by_event (into_iter_items l.id-iterator) (groups (into_iter_items l.said)))
    ≡ l.fn.items.items ++ flat_map (λ w. flat_map (raised_of w.0) w.1 ++ w.2)
    (by_event l.fn.waiting.items (groups l.fn.said.items)))
