-- When a response goes out next, after a tick (RFC 3261, section 13.3.1.4; RFC 3262, section 3).
-- Moments are in ms.
use Rattle.std.specs.Prelude.{◌≡◌, ℕ, not, map, filter, List, None, Some, if◌then◌else◌}
use Rattle.std.specs.List.{list_any}
use Rattle.std.specs.Option.{option_map}
use Rattle.sip_reliable.specs.Provisional.{Provisional, is_late, is_repeated, sent_again}
use Rattle.sip_served.specs.declared.held_request.HeldRequest.{HeldRequest}
use Rattle.sip_served.specs.declared.held_request.Retransmission.{Retransmission}
use Rattle.sip_served.specs.declared.held_request.Success.{Success}
use Rattle.sip_served.specs.RequestLife.{next_retransmission}
use Rattle.sip_calls.specs.declared.call.Call.{Call}
use Rattle.sip_calls.specs.declared.calls.Calls.{Calls}
use Rattle.sip_calls.specs.Call.{call_step}
use Rattle.sip_calls.specs.HeldRequests.{requests_held}
use Rattle.sip_agent_laws.specs.Calls.InTime.{has_come}
use Rattle.sip_agent_laws.specs.Repeats.Repeats.{is_due}

-- the held requests that a tick doesn't remove
abbrev pub left_at : ℕ → List HeldRequest → List HeldRequest
left_at now requests = filter (λ held. not (has_come now held.removal)) requests

-- A 2xx that goes out at a tick goes out next after twice the last interval, up to T2. Nothing else
-- changes when it goes out.
abbrev pub success_next : ℕ → Success → Retransmission
success_next now success =
    if is_due now success then next_retransmission now success.retransmission
    else success.retransmission

-- so for each held request
abbrev pub SuccessesNext : Type 0
SuccessesNext = (calls : Calls) (call : Call) (now : ℕ)
    → map (λ held. option_map (λ success. success.retransmission) held.success)
    (requests_held (call_step calls (Some call) None now).0)
    ≡ map (λ held. option_map (success_next now) held.success)
    (left_at now (call.served).requests)

-- A reliable provisional response that goes out at a tick goes out next after twice the last
-- interval (`sent_again`). If one was sent 64*T1 ago, none goes out from then on. Nothing else
-- changes when they go out.
abbrev pub provisionals_next : ℕ → HeldRequest → List Provisional
provisionals_next now held =
    if held.ledger.closed then held.ledger.waiting
    else if list_any (is_late now) held.ledger.waiting
    then map (λ (p : Provisional). record p { retransmission = None }) held.ledger.waiting
    else map (λ p. if is_repeated now p then sent_again now p else p) held.ledger.waiting

-- so for each held request
abbrev pub ProvisionalsNext : Type 0
ProvisionalsNext = (calls : Calls) (call : Call) (now : ℕ)
    → map (λ held. held.ledger.waiting) (requests_held (call_step calls (Some call) None now).0)
    ≡ map (provisionals_next now) (left_at now (call.served).requests)
