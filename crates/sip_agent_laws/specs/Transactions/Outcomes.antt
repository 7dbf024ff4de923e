-- By when a client transaction tells how its request ended.
use Rattle.std.specs.Prelude.{◌≡◌, ℕ, ◌+◌, ◌≤◌, Bool, true, false, ◌||◌, ◌⊎◌, nat_le, nat_lt, List, [], ◌∷◌, ◌++◌, Some, filter, is_none, count_by}
use Rattle.std.specs.List.{list_any}
use Rattle.sip_message.specs.declared.addr.Addr.{Addr}
use Rattle.sip_message.specs.declared.id.Id.{Id}
use Rattle.sip_message.specs.declared.key.Key.{Key}
use Rattle.sip_message.specs.declared.key.Key.TheVariants as key
use Rattle.sip_message.specs.declared.message.Message.{Message}
use Rattle.sip_message.specs.declared.start_line.StartLine.{StartLine}
use Rattle.sip_message.specs.declared.start_line.StartLine.TheVariants as start
use Rattle.sip_message.specs.Message.{is_request_message}
use Rattle.sip_timers.specs.declared.estimate.TheConstants.{LIFETIME as 64*T1}
use Rattle.keyed_machine.specs.Machine.{LifeIn, Machine, Timed, adds, given_at, said_at_first, said_in_rest, state_after, state_left}
use Rattle.sip_transactions.specs.declared.input.Input.{Input}
use Rattle.sip_transactions.specs.declared.input.Input.TheVariants.{Receive}
use Rattle.sip_transactions.specs.declared.life.Life.{Life}
use Rattle.sip_transactions.specs.declared.output.Out.{Out}
use Rattle.sip_transactions.specs.declared.output.Out.TheVariants.{Up}
use Rattle.sip_transactions.specs.declared.output.UpKind.{UpKind}
use Rattle.sip_transactions.specs.declared.output.UpKind.TheVariants.{Response, Timeout, Failed}
use Rattle.sip_transactions.specs.declared.state.Role.TheVariants as role
use Rattle.sip_transactions.specs.declared.state.State.TheVariants.{Proceeding}
use Rattle.sip_transactions.specs.Steps.Input.{is_abandon, role_of}
use Rattle.sip_transactions.specs.Steps.Life.{state_of}
use Rattle.sip_agent_laws.specs.Transactions.Closing.{lacks_final}
use Rattle.sip_agent_laws.specs.Transactions.Timers.{has_tick_from}

-- the class of a response (RFC 3261, section 7.2): 100 to 199, or 200 to 699
abbrev pub is_provisional : StartLine → Bool
is_provisional (start.Response status reason) = nat_lt status 200
is_provisional (start.Request uri) = false

abbrev pub is_final : StartLine → Bool
is_final (start.Response status reason) = nat_le 200 status
is_final (start.Request uri) = false

-- how a request ends: by a final response, or none came in time, or it could not be sent (sections
-- 17.1.1.2, 17.1.2.2 and 17.1.4)
abbrev pub is_outcome : UpKind → Bool
is_outcome (Response message) = is_final message.start
is_outcome Timeout = true
is_outcome Failed = true
is_outcome other = false

abbrev pub is_progress : UpKind → Bool
is_progress (Response message) = is_provisional message.start
is_progress other = false

abbrev pub is_timeout : UpKind → Bool
is_timeout Timeout = true
is_timeout other = false

-- this comes up
abbrev pub is_up : (UpKind → Bool) → Out → Bool
is_up test (Up up) = test up.kind
is_up test other = false

-- how often this comes up
abbrev pub ups : (UpKind → Bool) → List Out → ℕ
ups test outs = count_by (is_up test) outs

module _ {machine : Machine Key Life (Timed Input) Out} {key : Key} {inputs : List (Timed Input)}
  where
    abbrev pub outcomes : LifeIn machine key inputs → ℕ
    outcomes life = ups is_outcome (said_at_first life ++ said_in_rest life)

    -- it ended, or a tick came 64*T1 after its start or later: timer B or F has fired
    abbrev pub is_overdue : LifeIn machine key inputs → Bool
    is_overdue life =
        is_none (state_left life) || has_tick_from (life.first.moment + 64*T1) life.rest

    -- the user gave it up
    abbrev pub is_given_up : LifeIn machine key inputs → Bool
    is_given_up life = list_any (λ timed. is_abandon timed.input) life.rest

-- a request other than INVITE has at most one outcome
abbrev pub AtMostOneOutcome : Machine Key Life (Timed Input) Out → Type 0
AtMostOneOutcome machine = (key : Key) (inputs : List (Timed Input))
    (life : LifeIn machine key inputs) → role_of key ≡ role.Client → outcomes life ≤ 1

-- and it has one 64*T1 after its start, unless the user gave it up (RFC 3261, section 17.1.2.2)
abbrev pub EachRequestEnds : Machine Key Life (Timed Input) Out → Type 0
EachRequestEnds machine = (key : Key) (inputs : List (Timed Input))
    (life : LifeIn machine key inputs) → role_of key ≡ role.Client
    → is_given_up life ≡ false → is_overdue life ≡ true → outcomes life ≡ 1

-- 64*T1 after its start an INVITE has an outcome, unless the user gave it up; or it waits for one,
-- and a provisional response came up (RFC 3261, section 17.1.1.2).
abbrev pub EachInviteEnds : Machine Key Life (Timed Input) Out → Type 0
EachInviteEnds machine = (key : Key) (inputs : List (Timed Input))
    (life : LifeIn machine key inputs) → role_of key ≡ role.InviteClient
    → is_given_up life ≡ false → is_overdue life ≡ true
    → (1 ≤ outcomes life) ⊎ ((state_of (state_left life) ≡ Some Proceeding)
    × (1 ≤ ups is_progress (said_at_first life ++ said_in_rest life)))

-- no client tells of a timeout before a tick 64*T1 after its start (RFC 3261, sections 17.1.1.2 and
-- 17.1.2.2)
abbrev pub NoEarlyTimeout : Machine Key Life (Timed Input) Out → Type 0
NoEarlyTimeout machine = (branch method : List ℕ) (inputs : List (Timed Input))
    (life : LifeIn machine (key.Client branch method) inputs)
    → has_tick_from (life.first.moment + 64*T1) life.rest ≡ false
    → ups is_timeout (said_at_first life ++ said_in_rest life) ≡ 0

-- As long as no final response came, each response that comes to a client comes up, once and alone
-- (RFC 3261, sections 17.1.1.2 and 17.1.2.2).
abbrev pub ResponsesComeUp : Machine Key Life (Timed Input) Out → Type 0
ResponsesComeUp machine = (branch method : List ℕ) (inputs : List (Timed Input)) (life : Life)
    → let key = key.Client branch method in
    state_after machine key inputs ≡ Some life → lacks_final life.state ≡ true
    → (id : Id) (response : Message) (reply_to : Addr) (now : ℕ)
    → is_request_message response ≡ false
    → filter (is_up (λ kind. true))
    (adds machine key (Some life) (given_at now (Receive id response reply_to)))
    ≡ Up (record {
      key = key;
      id = life.context.id;
      call_id = life.context.call_id;
      kind = Response response;
    }) ∷ []
