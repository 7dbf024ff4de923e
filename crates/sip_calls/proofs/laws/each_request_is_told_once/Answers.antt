-- The law `each_request_is_told_once`: only the input that brings a request tells the user of it,
-- once.
use Rattle.sip_calls.proofs.RequestsTold.{each_told_once}
use Rattle.sip_calls.proofs.laws.each_request_is_told_once.Goals as goal

pub returns : goal.returns
returns c = each_told_once
