-- The law `cancels_told_were_asked_for`: the other user asked for each CANCEL that is told.
use Rattle.sip_conversation.specs.Conversation.{of_sides}
use Rattle.sip_conversation.proofs.CallsKeep.{by_types}
use Rattle.sip_conversation.proofs.RequestsSaid.{cancels_said}
use Rattle.sip_conversation.proofs.laws.cancels_told_were_asked_for.Goals as goal

pub returns : goal.returns
returns c =
    let configs = of_sides c.args.one c.args.other in
    let fair = c.sides_are_fair.ensures in
    by_types configs fair
    (cancels_said configs fair)
