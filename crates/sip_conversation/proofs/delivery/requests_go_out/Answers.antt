-- The law `requests_go_out`: a request that a user asks for is refused, or goes out.
use Rattle.sip_conversation.specs.Conversation.Side.{One}
use Rattle.sip_conversation.proofs.RequestsGoOut as out
use Rattle.sip_conversation.proofs.delivery.requests_go_out.Goals as goal

pub returns : goal.returns
returns c = out.requests_go_out c.args.config (c.sides_are_fair.ensures.calls One)
