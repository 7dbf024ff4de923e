-- The law `a_cancel_answers_as_the_user_would`: a CANCEL does the same to its INVITE as a 487 of
-- the user.
use Rattle.sip_served.proofs.Terminations.{user_terminates}
use Rattle.sip_served.proofs.laws.a_cancel_answers_as_the_user_would.Goals as goal

pub returns : goal.returns
returns c = user_terminates
