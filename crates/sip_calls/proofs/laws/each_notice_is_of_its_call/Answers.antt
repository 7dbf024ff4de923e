-- The law `each_notice_is_of_its_call`: what is held of a call and told of it has its Call-ID.
use Rattle.sip_calls.proofs.OwnCall.{each_notice_is_own}
use Rattle.sip_calls.proofs.laws.each_notice_is_of_its_call.Goals as goal

pub returns : goal.returns
returns c = each_notice_is_own
