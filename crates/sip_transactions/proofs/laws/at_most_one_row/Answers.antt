-- The law `at_most_one_row`: in each table at most one row fits a state and a trigger.
use Rattle.sip_transactions.proofs.RowFacts as facts
use Rattle.sip_transactions.proofs.laws.at_most_one_row.Goals as goal

pub returns : goal.returns
returns c = facts.at_most_one_row
