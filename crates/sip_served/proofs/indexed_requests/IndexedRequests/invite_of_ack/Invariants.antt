-- The loop of `invite_of_ack`: no request below the least number takes the ACK.
use Rattle.std.proofs.Common.{◌≡◌, ◌-◌, ◌&&◌}
use Rattle.sip_served.specs.Acknowledgment.{awaits_ack, is_ack_of}
use Rattle.sip_served.specs.declared.held_request.HeldRequest.{HeldRequest}
use Rattle.sip_served.proofs.Finds.{NoneBelow}
use Rattle.sip_served.proofs.indexed_requests.IndexedRequests.invite_of_ack.Given as goal

abbrev pub invariant-loop-least : goal.invariant-loop-least
invariant-loop-least l =
    (l.least.0 ≡ l.initial.least.0)
    × NoneBelow (λ (held : HeldRequest). awaits_ack held && is_ack_of l.ack held)
    l.self-inside.all.requests.entries l.least.1

abbrev pub decreases-loop-least : goal.decreases-loop-least
decreases-loop-least l = l.self-inside.next - l.least.1
