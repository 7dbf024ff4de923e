-- The law `own_sends_given`: a transaction's Sends are those that its own history says.
use Rattle.sip_round.proofs.GivenSends.{sends_given}
use Rattle.sip_round.proofs.laws.own_sends_given.Goals as goal

pub returns : goal.returns
returns c = sends_given
