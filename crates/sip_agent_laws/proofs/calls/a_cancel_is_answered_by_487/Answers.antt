-- The law `a_cancel_is_answered_by_487`: a CANCEL does to its INVITE what a 487 of the user does.
use Rattle.sip_agent_laws.proofs.calls.Cancelled.{cancel_answered}
use Rattle.sip_agent_laws.proofs.calls.a_cancel_is_answered_by_487.Goals as goal

pub returns : goal.returns
returns c = cancel_answered
