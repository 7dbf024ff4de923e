-- The law `a_cancel_goes_out`: a CANCEL goes out at once, or by the first provisional response.
use Rattle.sip_agent_laws.proofs.calls.Outcomes.{cancel_goes_out, cancel_waits, waiting_goes_out}
use Rattle.sip_agent_laws.proofs.calls.a_cancel_goes_out.Goals as goal

pub returns-clause-asked : goal.returns-clause-asked
returns-clause-asked c = cancel_goes_out

pub returns-clause-waiting : goal.returns-clause-waiting
returns-clause-waiting c = waiting_goes_out

pub returns-clause-waits : goal.returns-clause-waits
returns-clause-waits c = cancel_waits
