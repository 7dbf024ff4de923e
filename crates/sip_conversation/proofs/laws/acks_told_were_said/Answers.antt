-- The law `acks_told_were_said`: the other side said each ACK that is told.
use Rattle.sip_conversation.specs.Conversation.{of_sides}
use Rattle.sip_conversation.proofs.AcksSaid.{acks_told_said}
use Rattle.sip_conversation.proofs.laws.acks_told_were_said.Goals as goal

pub returns : goal.returns
returns c =
    let configs = of_sides c.args.one c.args.other in
    let fair = c.sides_are_fair.ensures in
    acks_told_said configs fair
