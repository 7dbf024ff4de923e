-- The law `responses_are_told_as_they_come`: a response is told by the input that brings it, once.
use Rattle.sip_agent_laws.proofs.calls.ProvisionalsTold.{provisionals_are_told}
use Rattle.sip_agent_laws.proofs.calls.Told.{told_as_they_come, told_once}
use Rattle.sip_agent_laws.proofs.calls.responses_are_told_as_they_come.Goals as goal

pub returns-clause-comes : goal.returns-clause-comes
returns-clause-comes c = told_as_they_come

pub returns-clause-once : goal.returns-clause-once
returns-clause-once c = told_once

pub returns-clause-provisional : goal.returns-clause-provisional
returns-clause-provisional c = provisionals_are_told
