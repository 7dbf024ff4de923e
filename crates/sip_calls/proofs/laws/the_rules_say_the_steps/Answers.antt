-- The law `the_rules_say_the_steps`: the rules of a call, and when it is due, are the same as the
-- steps.
use Rattle.sip_calls.specs.Idle.{same_due}
use Rattle.sip_calls.proofs.SameSteps.{same_step}
use Rattle.sip_calls.proofs.laws.the_rules_say_the_steps.Goals as goal

pub returns-clause-step : goal.returns-clause-step
returns-clause-step c = same_step

pub returns-clause-due : goal.returns-clause-due
returns-clause-due c = same_due
