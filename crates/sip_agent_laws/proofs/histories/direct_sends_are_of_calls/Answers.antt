-- The law `direct_sends_are_of_calls`: what is sent without a key is an ACK that a call says.
use Rattle.sip_agent_laws.proofs.histories.DirectSends.{acks_of_calls_given, direct_sends_given}
use Rattle.sip_agent_laws.proofs.histories.direct_sends_are_of_calls.Goals as goal

pub returns-clause-sends : goal.returns-clause-sends
returns-clause-sends c = direct_sends_given c.args.config.now

pub returns-clause-acks : goal.returns-clause-acks
returns-clause-acks c =
    acks_of_calls_given c.args.config.now c.laws_of_phases.ensures.each_key_alone
