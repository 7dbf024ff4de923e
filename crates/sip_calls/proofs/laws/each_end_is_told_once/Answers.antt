-- The law `each_end_is_told_once`: only the input that ends a dialog tells of its end, once, and
-- each end has its opening.
use Rattle.sip_calls.proofs.HeldDialogs.{each_end_has_its_opening, each_end_is_told_once}
use Rattle.sip_calls.proofs.laws.each_end_is_told_once.Goals as goal

pub returns-clause-once : goal.returns-clause-once
returns-clause-once c = each_end_is_told_once

pub returns-clause-opening : goal.returns-clause-opening
returns-clause-opening c = each_end_has_its_opening
