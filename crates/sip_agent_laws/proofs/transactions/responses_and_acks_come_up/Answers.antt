-- The law `responses_and_acks_come_up`.
use Rattle.sip_transactions.proofs.Rules.{at_steps}
use Rattle.sip_agent_laws.specs.Transactions.Acks.{AcksComeUp}
use Rattle.sip_agent_laws.specs.Transactions.Outcomes.{ResponsesComeUp}
use Rattle.sip_agent_laws.proofs.transactions.Acks.{acks_come_up}
use Rattle.sip_agent_laws.proofs.transactions.ComeUp.{responses_come_up}
use Rattle.sip_agent_laws.proofs.transactions.responses_and_acks_come_up.Goals as goal

pub returns-clause-responses : goal.returns-clause-responses
returns-clause-responses c = at_steps ResponsesComeUp responses_come_up

pub returns-clause-acks : goal.returns-clause-acks
returns-clause-acks c = at_steps AcksComeUp acks_come_up
