-- The law `each_dialog_is_held_until_it_ends`: a dialog is held if an input opened it and none ended
-- it since.
use Rattle.sip_agent_laws.proofs.histories.HeldDialogs.{dialogs_are_held_until_they_end}
use Rattle.sip_agent_laws.proofs.histories.each_dialog_is_held_until_it_ends.Goals as goal

pub returns : goal.returns
returns c = dialogs_are_held_until_they_end
