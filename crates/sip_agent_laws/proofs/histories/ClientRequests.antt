-- The client requests that are held after rounds are what the laws of calls say of its inputs.
use Rattle.std.proofs.Common.{subst}
use Rattle.sip_clients.specs.ClientRules.{AllWait}
use Rattle.sip_clients.specs.ClientTelling.{AreTold}
use Rattle.sip_calls.specs.Provisionals.{side_held}
use Rattle.sip_calls.proofs.ClientHistories.{cancels_once, holds_client_stories, repeats_its_ack, waits_as_asked}
use Rattle.sip_round.specs.Answers.{calls_of}
use Rattle.sip_round.specs.Laws.{call_inputs_of}
use Rattle.sip_agent_laws.specs.Histories.ClientRequests.{EachCancelGoesOnce, EachCancelWaitsAsAsked, EachClientRequestHasItsStory, EachRepeatedAckIsTheSame, stories_after}
use Rattle.sip_agent_laws.proofs.histories.CallsAfter.{held_so}

pub requests_have_their_stories : EachClientRequestHasItsStory
requests_have_their_stories config rounds call_id =
    subst (λ call. AreTold (side_held call).clients (stories_after config rounds call_id))
    (held_so config rounds call_id)
    (holds_client_stories (calls_of config) (call_inputs_of config rounds call_id))

pub cancels_go_once : EachCancelGoesOnce
cancels_go_once config rounds call_id =
    cancels_once (calls_of config) (call_inputs_of config rounds call_id)

pub cancels_wait_as_asked : EachCancelWaitsAsAsked
cancels_wait_as_asked config rounds call_id =
    subst (λ call. AllWait (side_held call).clients) (held_so config rounds call_id)
    (waits_as_asked (calls_of config) (call_inputs_of config rounds call_id))

pub repeated_acks_are_the_same : EachRepeatedAckIsTheSame
repeated_acks_are_the_same config rounds call_id =
    repeats_its_ack (calls_of config) (call_inputs_of config rounds call_id)
