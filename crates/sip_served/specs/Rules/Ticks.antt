-- The rules of a tick: what is sent again, given up and removed, and when the next is due (RFC
-- 3261, section 13.3.1.4; RFC 3262, section 3). Moments are in ms.
use Rattle.std.specs.Prelude.{ℕ, true, ◌+◌, ◌*◌, ◌&&◌, ◌==◌, nat_le, nat_lt, min, List, [], ◌∷◌, ◌++◌, map, filter, fold, Option, None, Some, if◌then◌else◌}
use Rattle.std.specs.List.{flat_map, list_any}
use Rattle.std.specs.Option.{is_none, is_some, option_and_then, option_map_or}
use Rattle.sip_reliable.specs.Ledger.{Ledger}
use Rattle.sip_reliable.specs.Provisional.{after_repeat, due_moment, given_up, is_late, is_repeated}
use Rattle.sip_timers.specs.Earlier.{earlier}
use Rattle.sip_transactions.specs.declared.input.Command.TheVariants.{Answer}
use Rattle.sip_transactions.specs.declared.timers.TheConstants.{T2}
use Rattle.sip_user.specs.declared.item.CallOut.{CallOut}
use Rattle.sip_user.specs.declared.item.CallOut.TheVariants.{Command, Notice}
use Rattle.sip_user.specs.declared.notice.Notice.TheVariants.{NoAck, NoPrack}
use Rattle.sip_served.specs.declared.held_request.HeldRequest.{HeldRequest}
use Rattle.sip_served.specs.declared.held_request.Retransmission.{Retransmission}
use Rattle.sip_served.specs.declared.held_request.Success.{Success}
use Rattle.sip_served.specs.declared.held_request.SuccessEnd.TheVariants.{GivenUp}
use Rattle.sip_served.specs.State.{State, ServedTaken}

-- A 2xx to an INVITE that has no ACK is given up at its end, which is also the moment of removal:
-- the same tick removes the request. Until then it is sent again when it is due; each interval is
-- twice the last, up to T2 (RFC 3261, section 13.3.1.4). Its Retransmission has the last interval.
abbrev pub success_at : ℕ → HeldRequest → Success → Option Success × List CallOut
success_at now held success =
    let interval = min (2 * success.retransmission.interval) T2 in
    let later : Retransmission = record { due = now + interval; interval = interval } in
    let again = Command held.id (Answer held.key success.response) in
    let no_ack = Notice (NoAck held.request.call_id held.id) in
    if is_none success.over && nat_le success.end now
    then (Some (record success { over = Some GivenUp }), no_ack ∷ [])
    else if is_none success.over && nat_le success.retransmission.due now
    then (Some (record success { retransmission = later }), again ∷ [])
    else (Some success, [])

-- the 2xx of a held request, if there is one
abbrev pub success_tick : ℕ → HeldRequest → Option Success × List CallOut
success_tick now held = option_map_or (success_at now held) held.success (None, [])

-- All reliable provisional responses without a PRACK are given up 64*T1 after one of them was sent.
-- Until then the messages of those that are due are sent again, and each interval is twice the
-- last. A final response ends both (RFC 3262, section 3).
abbrev pub provisionals_tick : ℕ → HeldRequest → Ledger × List CallOut
provisionals_tick now held =
    let ledger = held.ledger in
    let no_prack = Notice (NoPrack held.request.call_id held.id) in
    let due = map (λ p. p.number) (filter (is_repeated now) ledger.waiting) in
    if ledger.closed then (ledger, [])
    else if list_any (is_late now) ledger.waiting
    then (record ledger { waiting = map given_up ledger.waiting }, no_prack ∷ [])
    else (
      record ledger { waiting = map (after_repeat now) ledger.waiting },
      map (λ one. Command held.id (Answer held.key one.response))
          (filter (λ one. list_any (λ number. one.number == number) due) held.provisionals),
    )

-- A tick of each held request; then those whose moment of removal has come are removed.
unfoldable pub server_tick : State → ℕ → ServedTaken
server_tick state now = (
  record state {
    requests = filter (λ held. option_map_or (λ moment. nat_lt now moment) held.removal true)
        (map (λ (held : HeldRequest). record held {
          ledger = (provisionals_tick now held).0;
          success = (success_tick now held).0;
        }) state.requests);
  },
  flat_map (λ held. (success_tick now held).1 ++ (provisionals_tick now held).1) state.requests,
)

-- ---- for steps and laws: `run` needs nothing of what follows

-- the moment at which a 2xx is sent again or given up
abbrev pub success_due : Success → Option ℕ
success_due success =
    if is_some success.over then None else Some (min success.end success.retransmission.due)

-- the moments at which something of a held request is due; each may be missing
abbrev pub moments_of : HeldRequest → List (Option ℕ)
moments_of held =
    let waiting = if held.ledger.closed then [] else map due_moment held.ledger.waiting in
    held.removal ∷ option_and_then success_due held.success ∷ waiting

-- The first moment at which a tick does something.
unfoldable pub server_due : State → Option ℕ
server_due state = fold earlier None (flat_map moments_of state.requests)
