-- The law `repeated_in_time`: what a tick sends again, and when it does so next.
use Rattle.sip_agent_laws.proofs.repeats.Later.{due_later}
use Rattle.sip_agent_laws.proofs.repeats.Next.{provisionals_next_so, successes_next}
use Rattle.sip_agent_laws.proofs.repeats.Repeats.{sent_again}
use Rattle.sip_agent_laws.proofs.repeats.Stories.{sent_as_told}
use Rattle.sip_agent_laws.proofs.repeats.Unrepeated.{only_ticks_repeat}
use Rattle.sip_agent_laws.proofs.repeats.repeated_in_time.Goals as goal

pub returns-clause-sent : goal.returns-clause-sent
returns-clause-sent c = sent_again

pub returns-clause-success : goal.returns-clause-success
returns-clause-success c = successes_next

pub returns-clause-provisionals : goal.returns-clause-provisionals
returns-clause-provisionals c = provisionals_next_so

pub returns-clause-later : goal.returns-clause-later
returns-clause-later c = due_later

pub returns-clause-told : goal.returns-clause-told
returns-clause-told c = sent_as_told

pub returns-clause-ticks : goal.returns-clause-ticks
returns-clause-ticks c = only_ticks_repeat
