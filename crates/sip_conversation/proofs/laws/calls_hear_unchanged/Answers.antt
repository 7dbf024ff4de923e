-- The law `calls_hear_unchanged`: a message that comes up to a call is one that the other side
-- said.
use Rattle.sip_conversation.specs.Conversation.{of_sides}
use Rattle.sip_conversation.proofs.CallsKeep.{by_types}
use Rattle.sip_conversation.proofs.Before.{calls_before}
use Rattle.sip_conversation.proofs.laws.calls_hear_unchanged.Goals as goal

pub returns : goal.returns
returns c =
    let configs = of_sides c.args.one c.args.other in
    let fair = c.sides_are_fair.ensures in
    by_types configs fair (calls_before fair.transactions configs fair.addresses)
