-- A tick: what is sent again, given up and removed, and when the next is due (RFC 3261, section
-- 13.3.1.4; RFC 3262, section 3). Moments are in ms.
use Rattle.std.specs.Prelude.{ℕ, Bool, true, nat_le, nat_lt, min, List, [], ◌∷◌, ◌++◌, map, filter, fold, Option, None, Some, if◌then◌else◌}
use Rattle.std.specs.List.{flat_map}
use Rattle.std.specs.Option.{is_some, option_map_or, option_and_then}
use Rattle.sip_message.specs.declared.message.Message.{Message}
use Rattle.sip_reliable.specs.declared.tick.Tick.{Tick}
use Rattle.sip_reliable.specs.declared.tick.Tick.TheVariants as tick
use Rattle.sip_reliable.specs.Ledger.{next_moment, tick_answer}
use Rattle.sip_timers.specs.Earlier.{earlier}
use Rattle.sip_transactions.specs.declared.input.Command.TheVariants.{Answer}
use Rattle.sip_served.specs.declared.held_request.HeldRequest.{HeldRequest}
use Rattle.sip_served.specs.declared.held_request.Success.{Success}
use Rattle.sip_served.specs.declared.held_request.SuccessEnd.TheVariants.{GivenUp}
use Rattle.sip_user.specs.declared.item.CallOut.{CallOut}
use Rattle.sip_user.specs.declared.item.CallOut.TheVariants as out
use Rattle.sip_user.specs.declared.item.CallOut.TheVariants.{Command}
use Rattle.sip_user.specs.declared.notice.Notice.TheVariants.{NoAck, NoPrack}
use Rattle.sip_served.specs.declared.retransmissions.SuccessDue.{SuccessDue}
use Rattle.sip_served.specs.declared.retransmissions.SuccessDue.TheVariants as repeat
use Rattle.sip_served.specs.Provisionals.{of_numbers}
use Rattle.sip_served.specs.RequestLife.{RequestHappening, EndsSuccess, GivesUpProvisionals, RepeatsProvisionals, RepeatsSuccess, went_on}
use Rattle.sip_served.specs.State.{State, ServedTaken}

-- a held request after a tick, and what is told
abbrev pub Ticked : Type 0
Ticked = HeldRequest × List CallOut

-- ---- the 2xx to an INVITE

-- what is given: the 2xx again, or the notice that it was given up
abbrev pub success_told : SuccessDue → HeldRequest → Message → List CallOut
success_told repeat.Nothing held response = []
success_told repeat.Again held response = Command held.id (Answer held.key response) ∷ []
success_told repeat.GivenUp held response =
    out.Notice (NoAck held.request.call_id held.id) ∷ []

-- whether a 2xx is sent again or given up; if both are due it is given up
abbrev pub success_answer : ℕ → Success → SuccessDue
success_answer now success =
    if is_some success.over then repeat.Nothing
    else if nat_le success.end now then repeat.GivenUp
    else if nat_le success.retransmission.due now then repeat.Again
    else repeat.Nothing

-- what happens to the request
abbrev pub success_goes : SuccessDue → ℕ → List RequestHappening
success_goes repeat.Nothing now = []
success_goes repeat.Again now = RepeatsSuccess now ∷ []
success_goes repeat.GivenUp now = EndsSuccess GivenUp ∷ []

-- what happens to a request with this 2xx, or without one
abbrev pub success_passes : ℕ → Option Success → List RequestHappening
success_passes now None = []
success_passes now (Some success) = success_goes (success_answer now success) now

-- the request after that, and what it gives
abbrev pub success_at_tick : ℕ → HeldRequest → Option Success → Ticked
success_at_tick now held None = (held, [])
success_at_tick now held (Some success) = (
  went_on (success_passes now (Some success)) held,
  success_told (success_answer now success) held success.response,
)

-- the 2xx of a held request at a tick
abbrev pub success_ticked : ℕ → HeldRequest → Ticked
success_ticked now held = success_at_tick now held held.success

-- ---- the reliable provisional responses that wait for their PRACK

-- the responses with these numbers are sent again
abbrev pub sent_again : List ℕ → HeldRequest → List CallOut
sent_again numbers held =
    map (λ one. Command held.id (Answer held.key one.response))
    (of_numbers numbers held.provisionals)

-- what is given: the responses again, or the notice that no PRACK came
abbrev pub provisionals_told : Tick → HeldRequest → List CallOut
provisionals_told tick.Nothing held = []
provisionals_told (tick.Again numbers) held = sent_again numbers.items held
provisionals_told tick.GivenUp held = out.Notice (NoPrack held.request.call_id held.id) ∷ []

-- what happens to the request
abbrev pub provisionals_go : Tick → ℕ → List RequestHappening
provisionals_go tick.Nothing now = []
provisionals_go (tick.Again numbers) now = RepeatsProvisionals numbers.items now ∷ []
provisionals_go tick.GivenUp now = GivesUpProvisionals now ∷ []

-- the request after it, and what it gives
abbrev pub provisionals_by : Tick → ℕ → HeldRequest → Ticked
provisionals_by answer now held =
    (went_on (provisionals_go answer now) held, provisionals_told answer held)

-- the reliable provisional responses of a held request at a tick
abbrev pub provisionals_ticked : ℕ → HeldRequest → Ticked
provisionals_ticked now held = provisionals_by (tick_answer held.ledger now) now held

-- ---- one request, and all

-- what happens to a request: first to its 2xx and then to the provisional responses
abbrev pub request_passes : ℕ → HeldRequest → List RequestHappening
request_passes now held =
    success_passes now held.success ++ provisionals_go (tick_answer held.ledger now) now

-- the request after that, and what it gives
abbrev pub request_ticked : ℕ → HeldRequest → Ticked
request_ticked now held =
    let first = success_ticked now held in
    let second = provisionals_ticked now first.0 in
    (second.0, first.1 ++ second.1)

-- a request that isn't due to be removed
abbrev pub is_kept_at : ℕ → HeldRequest → Bool
is_kept_at now held = option_map_or (λ moment. nat_lt now moment) held.removal true

-- each held request takes the tick; those whose time is over are removed
abbrev pub tick_taken : State → ℕ → ServedTaken
tick_taken state now = (
  record state {
    requests = filter (is_kept_at now)
        (map (λ held. (request_ticked now held).0) state.requests);
  },
  flat_map (λ held. (request_ticked now held).1) state.requests,
)

-- ---- when something is due

abbrev pub success_moment : Success → Option ℕ
success_moment success =
    if is_some success.over then None else Some (min success.end success.retransmission.due)

-- the first moment at which something of a request is due
abbrev pub request_due : HeldRequest → Option ℕ
request_due held =
    earlier (earlier (option_and_then success_moment held.success)
    (next_moment held.ledger)) held.removal

-- the first moment at which a tick does something
abbrev pub next_due_of : List HeldRequest → Option ℕ
next_due_of requests = fold (λ due held. earlier due (request_due held)) None requests

abbrev pub next_server_due : State → Option ℕ
next_server_due state = next_due_of state.requests
