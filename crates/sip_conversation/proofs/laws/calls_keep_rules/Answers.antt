-- The law `calls_keep_rules`: all that calls send keeps the rules of messages.
use Rattle.sip_conversation.specs.Conversation.{of_sides}
use Rattle.sip_conversation.proofs.CallsKeep.{calls_keep_rules}
use Rattle.sip_conversation.proofs.laws.calls_keep_rules.Goals as goal

pub returns : goal.returns
returns c =
    calls_keep_rules (of_sides c.args.one c.args.other) c.sides_are_fair.ensures
