-- The law `a_success_is_repeated`.
use Rattle.sip_agent_laws.proofs.repeats.HowOften.{each_success_is_repeated}
use Rattle.sip_agent_laws.proofs.repeats.a_success_is_repeated.Goals as goal

pub returns : goal.returns
returns c = each_success_is_repeated
