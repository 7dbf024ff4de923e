-- What a tick sends again (RFC 3261, section 13.3.1.4; RFC 3262, section 3). Moments are in ms.
use Rattle.std.specs.Prelude.{◌≡◌, ℕ, Bool, not, ◌&&◌, ◌==◌, nat_le, nat_lt, List, ◌++◌, map, filter, is_none, None, Some}
use Rattle.std.specs.List.{flat_map, list_any}
use Rattle.std.specs.Option.{option_to_list}
use Rattle.sip_message.specs.declared.message.Message.{Message}
use Rattle.sip_reliable.specs.Provisional.{is_late, is_repeated}
use Rattle.sip_transactions.specs.declared.input.Command.TheVariants.{Answer}
use Rattle.sip_user.specs.declared.item.CallOut.{CallOut}
use Rattle.sip_user.specs.declared.item.CallOut.TheVariants.{Command}
use Rattle.sip_served.specs.declared.held_request.HeldRequest.{HeldRequest}
use Rattle.sip_served.specs.declared.held_request.Success.{Success}
use Rattle.sip_served.specs.declared.provisionals.ReliableResponse.{ReliableResponse}
use Rattle.sip_calls.specs.declared.call.Call.{Call}
use Rattle.sip_calls.specs.declared.calls.Calls.{Calls}
use Rattle.sip_calls.specs.Call.{call_step}
use Rattle.sip_agent_laws.specs.Calls.Commanded.{goes_out}

-- A 2xx goes out again if its next moment has come: no ACK came, it wasn't given up, and 64*T1
-- since it was sent (`end`) aren't over.
abbrev pub is_due : ℕ → Success → Bool
is_due now success =
    is_none success.over && nat_lt now success.end && nat_le success.retransmission.due now

-- the 2xx of a held request, if it goes out again
abbrev pub success_due : ℕ → HeldRequest → List Message
success_due now held =
    map (λ success. success.response) (filter (is_due now) (option_to_list held.success))

-- A reliable provisional response goes out again if its next moment has come: no PRACK of it came,
-- no final response went out, and none was sent 64*T1 ago or more that waits for its PRACK.
abbrev pub is_provisional_due : ℕ → HeldRequest → ReliableResponse → Bool
is_provisional_due now held one =
    not held.ledger.closed && not (list_any (is_late now) held.ledger.waiting)
    && list_any (λ p. is_repeated now p && (one.number == p.number)) held.ledger.waiting

-- those of a held request that go out again
abbrev pub provisionals_due : ℕ → HeldRequest → List Message
provisionals_due now held =
    map (λ one. one.response) (filter (is_provisional_due now held) held.provisionals)

-- responses to a held request, through its transaction
abbrev pub responses_to : HeldRequest → List Message → List CallOut
responses_to held responses = map (λ response. Command held.id (Answer held.key response)) responses

-- Whatever is held under a Call-ID: all that goes out at a tick is, for each held request of the
-- peer, its 2xx if it is due, and then the reliable provisional responses that are due.
abbrev pub SentAgain : Type 0
SentAgain = (calls : Calls) (call : Call) (now : ℕ)
    → goes_out (call_step calls (Some call) None now).1
    ≡ flat_map (λ held. responses_to held (success_due now held ++ provisionals_due now held))
    (call.served).requests
