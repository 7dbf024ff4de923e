-- The law `datagrams_are_texts_said`: a datagram is the text of a message that the other side said.
use Rattle.sip_conversation.specs.Conversation.{of_sides}
use Rattle.sip_conversation.proofs.CallsKeep.{by_types}
use Rattle.sip_conversation.proofs.Before.{datagrams_before}
use Rattle.sip_conversation.proofs.laws.datagrams_are_texts_said.Goals as goal

pub returns : goal.returns
returns c =
    let configs = of_sides c.args.one c.args.other in
    let fair = c.sides_are_fair.ensures in
    by_types configs fair (datagrams_before fair.transactions configs fair.addresses)
