-- The loop of `named_invite`: the RAck names no request below the least number.
use Rattle.std.proofs.Common.{◌≡◌, ◌-◌, ◌&&◌}
use Rattle.sip_served.specs.Arrival.{is_in_dialog, is_named_by}
use Rattle.sip_served.specs.declared.held_request.HeldRequest.{HeldRequest}
use Rattle.sip_served.proofs.Finds.{NoneBelow}
use Rattle.sip_served.proofs.indexed_requests.IndexedRequests.named_invite.Given as goal

abbrev pub invariant-loop-least : goal.invariant-loop-least
invariant-loop-least l =
    (l.least.0 ≡ l.initial.least.0)
    × NoneBelow (λ (held : HeldRequest). is_in_dialog l.name l.created_by held
    && is_named_by l.rack held) l.self-inside.all.requests.entries l.least.1

abbrev pub decreases-loop-least : goal.decreases-loop-least
decreases-loop-least l = l.self-inside.next - l.least.1
