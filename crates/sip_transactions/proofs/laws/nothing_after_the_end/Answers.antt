-- The law `nothing_after_the_end`: if ids differ, nothing is handed up under the id of a life that
-- has ended.
use Rattle.sip_transactions.specs.Laws.{NothingAfterTheEnd}
use Rattle.sip_transactions.proofs.AfterTheEnd as later
use Rattle.sip_transactions.proofs.Rules.{at_steps}
use Rattle.sip_transactions.proofs.laws.nothing_after_the_end.Goals as goal

pub returns : goal.returns
returns c = at_steps NothingAfterTheEnd later.nothing_after_the_end
