-- The law `a_response_awaits_its_prack_as_told`: which responses are kept, await their PRACK and
-- are sent again follows from the outputs.
use Rattle.sip_calls.proofs.Unacknowledged.{awaited_as_told, kept_as_told, repeated_as_told}
use Rattle.sip_calls.proofs.laws.a_response_awaits_its_prack_as_told.Goals as goal

pub returns-clause-kept : goal.returns-clause-kept
returns-clause-kept c = kept_as_told

pub returns-clause-awaited : goal.returns-clause-awaited
returns-clause-awaited c = awaited_as_told

pub returns-clause-repeated : goal.returns-clause-repeated
returns-clause-repeated c = repeated_as_told
