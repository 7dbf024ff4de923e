-- The law `waits_without_timers`: what is held waits exactly if none of its timers runs.
use Rattle.sip_transactions.proofs.Rules.{at_steps}
use Rattle.sip_agent_laws.specs.Transactions.Timers.{WaitsWithoutTimers}
use Rattle.sip_agent_laws.proofs.transactions.Timed as timed
use Rattle.sip_agent_laws.proofs.transactions.waits_without_timers.Goals as goal

pub returns : goal.returns
returns c = at_steps WaitsWithoutTimers timed.waits_without_timers
