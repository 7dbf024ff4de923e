-- The law `acks_follow_responses`: an ACK follows the 2xx that it acknowledges.
use Rattle.sip_conversation.specs.Conversation.{of_sides}
use Rattle.sip_conversation.proofs.AcksFollow.{acks_follow}
use Rattle.sip_conversation.proofs.laws.acks_follow_responses.Goals as goal

pub returns : goal.returns
returns c =
    let configs = of_sides c.args.one c.args.other in
    let fair = c.sides_are_fair.ensures in
    acks_follow configs fair
