-- The law `each_dialog_owes_as_told`: which ACKs and PRACKs a held dialog owes.
use Rattle.sip_round.proofs.CallsHeld.{dialogs_owe_as_told}
use Rattle.sip_round.proofs.laws.each_dialog_owes_as_told.Goals as goal

pub returns : goal.returns
returns c = dialogs_owe_as_told
