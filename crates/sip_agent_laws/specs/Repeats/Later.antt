-- After a tick nothing goes out again at that moment (RFC 3261, section 13.3.1.4; RFC 3262, section
-- 3).
use Rattle.std.specs.Prelude.{◌≡◌, ℕ, List, [], ◌++◌, None}
use Rattle.std.specs.List.{AllByRecursion}
use Rattle.keyed_machine.specs.Machine.{Timed}
use Rattle.sip_calls.specs.declared.calls.Calls.{Calls}
use Rattle.sip_calls.specs.Call.{CallItem, call_step}
use Rattle.sip_calls.specs.HeldRequests.{requests_held}
use Rattle.sip_calls.specs.Histories.{call_from}
use Rattle.sip_agent_laws.specs.Repeats.Repeats.{provisionals_due, success_due}

-- Whatever came to a call: after a tick, nothing of a held request of the peer is due to go out
-- again at that moment. So what went out is due later.
abbrev pub DueLater : Type 0
DueLater = (calls : Calls) (inputs : List (Timed CallItem)) (now : ℕ)
    → AllByRecursion (λ held. success_due now held ++ provisionals_due now held ≡ [])
    (requests_held (call_step calls (call_from calls None inputs) None now).0)
