-- The law `commands_only_send`: a command hands nothing up and drops nothing.
use Rattle.sip_transactions.specs.Laws.{CommandsOnlySend}
use Rattle.sip_transactions.proofs.LawSteps as steps
use Rattle.sip_transactions.proofs.Rules.{at_steps}
use Rattle.sip_transactions.proofs.laws.commands_only_send.Goals as goal

pub returns : goal.returns
returns c = at_steps CommandsOnlySend steps.commands_only_send
