-- The ACK of a 2xx that waits for it is told.
use Rattle.std.proofs.Common.{[], ap, ◌∙◌}
use Rattle.std.specs.Prelude.{Option}
use Rattle.std.specs.Option.{option_map_or}
use Rattle.sip_transactions.specs.declared.output.UpKind.{UpKind}
use Rattle.sip_served.specs.declared.held_request.HeldRequest.{HeldRequest}
use Rattle.sip_served.specs.Rules.Arrivals.{ack_for, ack_received}
use Rattle.sip_calls.specs.Call.{event_of, received}
use Rattle.sip_agent_laws.specs.Calls.Arrived.{AckIsTold}

pub ack_is_told : AckIsTold
unfolding ack_received
ack_is_told calls call event up ack now invite is found =
    ap (λ (k : UpKind). (received call (event_of calls event now) up k).1) is
    ∙ ap (λ (o : Option HeldRequest). (option_map_or (ack_for call.served up.call_id ack) o
    (call.served, [])).1) found
