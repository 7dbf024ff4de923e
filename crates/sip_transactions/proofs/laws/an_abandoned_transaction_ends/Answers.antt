-- The law `an_abandoned_transaction_ends`: it says nothing, and a late response is dropped.
use Rattle.sip_transactions.proofs.Abandoned.{abandon_ends, late_response}
use Rattle.sip_transactions.proofs.laws.an_abandoned_transaction_ends.Goals as goal

pub returns-clause-ends : goal.returns-clause-ends
returns-clause-ends c = abandon_ends

pub returns-clause-late : goal.returns-clause-late
returns-clause-late c = late_response
