-- The law `a_dialog_owes_as_told`: which ACKs and PRACKs are owed in a held dialog follows from the
-- outputs.
use Rattle.sip_calls.proofs.Owing.{owes_as_told}
use Rattle.sip_calls.proofs.laws.a_dialog_owes_as_told.Goals as goal

pub returns : goal.returns
returns c = owes_as_told
