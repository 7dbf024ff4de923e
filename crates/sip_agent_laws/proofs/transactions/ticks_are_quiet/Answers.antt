-- The law `ticks_are_quiet`.
use Rattle.sip_transactions.proofs.Rules.{at_steps}
use Rattle.sip_agent_laws.specs.Transactions.Timers.{TicksAreQuiet}
use Rattle.sip_agent_laws.proofs.transactions.Ticks as ticks
use Rattle.sip_agent_laws.proofs.transactions.ticks_are_quiet.Goals as goal

pub returns : goal.returns
returns c = at_steps TicksAreQuiet ticks.ticks_are_quiet
