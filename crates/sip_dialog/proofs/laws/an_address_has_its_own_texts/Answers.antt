-- The law `an_address_has_its_own_texts`: its texts are read as the address, and no others are.
use Rattle.sip_dialog.proofs.Addresses.{address_again, address_took}
use Rattle.sip_dialog.proofs.laws.an_address_has_its_own_texts.Goals as goal

pub returns-clause-read : goal.returns-clause-read
returns-clause-read c = address_again

pub returns-clause-only : goal.returns-clause-only
returns-clause-only c = address_took
