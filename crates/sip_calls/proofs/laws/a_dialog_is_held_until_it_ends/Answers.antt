-- The law `a_dialog_is_held_until_it_ends`: a dialog is held if an input opened it and none ended
-- it since.
use Rattle.sip_calls.proofs.HeldDialogs.{held_until_it_ends}
use Rattle.sip_calls.proofs.laws.a_dialog_is_held_until_it_ends.Goals as goal

pub returns : goal.returns
returns c = held_until_it_ends
