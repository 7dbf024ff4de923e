-- The law `requests_arrive`: a request arrives, and is told or answered.
use Rattle.sip_conversation.specs.Conversation.{of_sides}
use Rattle.sip_conversation.proofs.CallsKeep.{by_types}
use Rattle.sip_conversation.proofs.RequestsArrive.{requests_arrive}
use Rattle.sip_conversation.proofs.delivery.requests_arrive.Goals as goal

pub returns : goal.returns
returns c =
    let configs = of_sides c.args.one c.args.other in
    let fair = c.sides_are_fair.ensures in
    by_types configs fair
    (requests_arrive configs fair)
