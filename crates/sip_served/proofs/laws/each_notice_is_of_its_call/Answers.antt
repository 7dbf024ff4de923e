-- The law `each_notice_is_of_its_call`: what is held and what is told has the Call-ID of the call.
use Rattle.sip_served.proofs.OwnCall.{event_is}
use Rattle.sip_served.proofs.laws.each_notice_is_of_its_call.Goals as goal

pub returns : goal.returns
returns c = record {
  state = λ call_id state event its of_event. (event_is call_id state event its of_event).0;
  notices = λ call_id state event its of_event. (event_is call_id state event its of_event).1;
}
