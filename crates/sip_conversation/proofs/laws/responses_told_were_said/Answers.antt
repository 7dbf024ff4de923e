-- The law `responses_told_were_said`: the other side said each response that a user is told of.
use Rattle.sip_conversation.specs.Conversation.{of_sides}
use Rattle.sip_conversation.proofs.CallsKeep.{by_types}
use Rattle.sip_conversation.proofs.RepliesSaid.{responses_said}
use Rattle.sip_conversation.proofs.laws.responses_told_were_said.Goals as goal

pub returns : goal.returns
returns c =
    let configs = of_sides c.args.one c.args.other in
    let fair = c.sides_are_fair.ensures in
    by_types configs fair
    (responses_said configs fair)
