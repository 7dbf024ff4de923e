-- The law `failure_elsewhere_does_nothing`.
use Rattle.std.proofs.Common.{refl}
use Rattle.sip_transactions.specs.Rules.Step.{step_at}
use Rattle.sip_agents.proofs.laws.failure_elsewhere_does_nothing.Goals as goal

pub returns : goal.returns
unfolding step_at
returns c key id now = refl
