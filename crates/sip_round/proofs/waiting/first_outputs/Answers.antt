-- `first_outputs` gives the outputs and items of the ticks, and then the others by place.
use Rattle.std.proofs.Common.{◌++◌, ap, ◌∙◌}
use Rattle.std.specs.List.{flat_map}
use Rattle.keyed_machine.specs.Groups.{groups}
use Rattle.sip_round.specs.Outputs.{raised_of}
use Rattle.sip_round.specs.Steps.Form.{sent_as}
use Rattle.sip_round.specs.Steps.Waiting.{by_event}
use Rattle.sip_round.proofs.ByEvent.{by_groups, each}
use Rattle.sip_round.proofs.waiting.first_outputs.Goals as goal

pub returns-clause-outputs : goal.returns-clause-outputs
returns-clause-outputs g c =
    let given = sent_as g.F.Form.form in
    c.in_ok-put_by_place.ensures.outputs
    ∙ ap (λ os. os ++ flat_map (λ w. flat_map (given (w.0).place) w.1)
    (by_event c.args.waiting.items (groups c.args.replies.items.items)))
    (c.in_ok-part_all.ensures.outputs ∙ ap
    (λ os. os ++ each (given 0) (groups c.args.replies.ticks.items)) c.in_ok-outputs.ensures.items
    ∙ by_groups (given 0) (groups c.args.replies.ticks.items))

pub returns-clause-items : goal.returns-clause-items
returns-clause-items g c =
    c.in_ok-put_by_place.ensures.items
    ∙ ap (λ is. is ++ flat_map (λ w. flat_map (raised_of w.0) w.1 ++ w.2)
    (by_event c.args.waiting.items (groups c.args.replies.items.items)))
    (c.in_ok-part_all.ensures.items ∙ ap
    (λ is. is ++ each (raised_of (record { round = c.args.round; place = 0 }))
    (groups c.args.replies.ticks.items)) c.in_ok-items.ensures.items
    ∙ by_groups (raised_of (record { round = c.args.round; place = 0 }))
    (groups c.args.replies.ticks.items))
