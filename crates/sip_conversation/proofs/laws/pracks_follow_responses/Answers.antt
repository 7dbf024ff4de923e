-- The law `pracks_follow_responses`: a PRACK follows the response that it acknowledges.
use Rattle.sip_conversation.specs.Conversation.{of_sides}
use Rattle.sip_conversation.proofs.CallsKeep.{by_types}
use Rattle.sip_conversation.proofs.PracksFollow.{pracks_follow}
use Rattle.sip_conversation.proofs.laws.pracks_follow_responses.Goals as goal

pub returns : goal.returns
returns c =
    let configs = of_sides c.args.one c.args.other in
    let fair = c.sides_are_fair.ensures in
    by_types configs fair
    (pracks_follow configs fair)
