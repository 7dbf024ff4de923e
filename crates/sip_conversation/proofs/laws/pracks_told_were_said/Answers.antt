-- The law `pracks_told_were_said`: the other side said each PRACK that is told.
use Rattle.sip_conversation.specs.Conversation.{of_sides}
use Rattle.sip_conversation.proofs.CallsKeep.{by_types}
use Rattle.sip_conversation.proofs.RequestsSaid.{pracks_said}
use Rattle.sip_conversation.proofs.laws.pracks_told_were_said.Goals as goal

pub returns : goal.returns
returns c =
    let configs = of_sides c.args.one c.args.other in
    let fair = c.sides_are_fair.ensures in
    by_types configs fair
    (pracks_said configs fair)
