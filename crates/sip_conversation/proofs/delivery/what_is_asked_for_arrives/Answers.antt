-- The law `what_is_asked_for_arrives`: from a user's command to what the other user is told.
use Rattle.sip_conversation.specs.Conversation.{of_sides}
use Rattle.sip_conversation.proofs.AskedArrive.{asked_arrive}
use Rattle.sip_conversation.proofs.CallsKeep.{by_types}
use Rattle.sip_conversation.proofs.delivery.what_is_asked_for_arrives.Goals as goal

pub returns : goal.returns
returns c =
    let configs = of_sides c.args.one c.args.other in
    let fair = c.sides_are_fair.ensures in
    by_types configs fair
    (asked_arrive configs fair)
