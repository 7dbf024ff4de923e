-- The law `each_end_is_told_once`: only the input that ends a dialog tells of its end, once, and
-- each end has its opening.
use Rattle.sip_agent_laws.proofs.histories.HeldDialogs.{ends_are_told_once, ends_have_their_openings, no_end_is_untold}
use Rattle.sip_agent_laws.proofs.histories.each_end_is_told_once.Goals as goal

pub returns-clause-once : goal.returns-clause-once
returns-clause-once c = ends_are_told_once

pub returns-clause-opening : goal.returns-clause-opening
returns-clause-opening c = ends_have_their_openings

pub returns-clause-untold : goal.returns-clause-untold
returns-clause-untold c = no_end_is_untold
