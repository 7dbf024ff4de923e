-- The law `the_rules_say_the_steps`, clause `step`: the rules take the same steps as the code.
use Rattle.sip_transactions.proofs.Rules.{step_is}
use Rattle.sip_transactions.proofs.laws.the_rules_say_the_steps.Goals as goal

pub returns-clause-step : goal.returns-clause-step
returns-clause-step c = λ key held timed. step_is key held timed.moment timed.input
