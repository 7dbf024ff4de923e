-- The law `own_notices_given`: a call's notices are those that its own history says.
use Rattle.sip_round.proofs.GivenNotices.{notices_given}
use Rattle.sip_round.proofs.laws.own_notices_given.Goals as goal

pub returns : goal.returns
returns c = notices_given
