-- By when a transaction is gone that got or gave its final response.
use Rattle.std.specs.Prelude.{◌≡◌, ℕ, ◌+◌, Bool, true, false, ◌&&◌, nat_le, if◌then◌else◌, List, ◌∷◌, ◌++◌, Option, None, Some}
use Rattle.std.specs.List.{list_any}
use Rattle.sip_message.specs.declared.key.Key.{Key}
use Rattle.sip_timers.specs.declared.estimate.TheConstants.{LIFETIME as 64*T1}
use Rattle.keyed_machine.specs.Machine.{LifeIn, Machine, Timed, state_from, state_left}
use Rattle.sip_transactions.specs.declared.input.Input.{Input}
use Rattle.sip_transactions.specs.declared.input.Input.TheVariants as input
use Rattle.sip_transactions.specs.declared.life.Life.{Life}
use Rattle.sip_transactions.specs.declared.output.Out.{Out}
use Rattle.sip_transactions.specs.declared.state.Role.{Role}
use Rattle.sip_transactions.specs.declared.state.Role.TheVariants.{InviteClient, Client, InviteServer, Server}
use Rattle.sip_transactions.specs.declared.state.State.{State}
use Rattle.sip_transactions.specs.declared.state.State.TheVariants.{Calling, Trying, Proceeding, Completed, Accepted, Confirmed}
use Rattle.sip_transactions.specs.declared.trigger.Class.TheVariants.{Success as 2xx, Failure as 300-699}
use Rattle.sip_transactions.specs.declared.trigger.Trigger.{Trigger}
use Rattle.sip_transactions.specs.declared.trigger.Trigger.TheVariants.{Ack, Response, Answer}
use Rattle.sip_transactions.specs.Steps.Input.{arrival_of, role_of, trigger_of}
use Rattle.sip_transactions.specs.Steps.Life.{state_of}

-- how long a message may stay in the network, in ms (RFC 3261, section 17.1.2.2)
abbrev pub T4 : ℕ
T4 = 5000

-- no final response so far
abbrev pub lacks_final : State → Bool
lacks_final Calling = true
lacks_final Trying = true
lacks_final Proceeding = true
lacks_final state = false

-- the state after a final response, which comes to a client, and which the user gives to a server
abbrev pub final_state : Role → Trigger → Option State
final_state InviteClient (Response 2xx) = Some Accepted
final_state InviteClient (Response 300-699) = Some Completed
final_state Client (Response 2xx) = Some Completed
final_state Client (Response 300-699) = Some Completed
final_state InviteServer (Answer 2xx) = Some Accepted
final_state InviteServer (Answer 300-699) = Some Completed
final_state Server (Answer 2xx) = Some Completed
final_state Server (Answer 300-699) = Some Completed
final_state role trigger = None

-- the state that this leads to: the final response, or the ACK of a rejected INVITE
abbrev pub final_step : Role → State → Trigger → Option State
final_step InviteServer Completed Ack = Some Confirmed
final_step role state trigger = if lacks_final state then final_state role trigger else None

-- How long a transaction is held then, in ms, until timer D, I, J, K, L or M fires (RFC 3261,
-- sections 17.1.1.2, 17.1.2.2, 17.2.1 and 17.2.2, and RFC 6026, section 7). A rejected INVITE first
-- waits for its ACK.
abbrev pub closing_time : Role → State → Option ℕ
closing_time InviteServer Completed = None
closing_time InviteServer Confirmed = Some T4  -- I
closing_time Client Completed = Some T4  -- K
closing_time role Completed = Some 64*T1  -- D, J
closing_time role Accepted = Some 64*T1  -- L, M
closing_time role state = None

-- an INVITE was rejected: the client has sent its ACK, the server waits for it
abbrev pub has_acked : Role → State → Bool
has_acked InviteClient Completed = true
has_acked role state = false

abbrev pub awaits_ack : Role → State → Bool
awaits_ack InviteServer Completed = true
awaits_ack role state = false

abbrev pub is_ack : Trigger → Bool
is_ack Ack = true
is_ack trigger = false

-- what ends it, or leads on: a tick at its end or later, the user, a failed send of its ACK, and
-- the ACK that it waits for
abbrev pub leaves_by : Role → State → ℕ → ℕ → Option Input → Bool
leaves_by role state end now None = nat_le end now
leaves_by role state end now (Some input.Abandon) = true
leaves_by role state end now (Some (input.Failed id)) = has_acked role state
leaves_by role state end now (Some (input.Receive id message reply_to)) =
    is_ack (arrival_of message.start message.cseq.method) && awaits_ack role state
leaves_by role state end now (Some other) = false

-- one of the inputs does
abbrev pub has_leave : Role → State → ℕ → List (Timed Input) → Bool
has_leave role state end inputs =
    list_any (λ timed. leaves_by role state end timed.moment timed.input) inputs

-- an input leads a life to this state, by its final response or by the ACK of a rejected INVITE;
-- and the inputs that come later
pub record Closes {machine : Machine Key Life (Timed Input) Out} {key : Key}
    {inputs : List (Timed Input)} (life : LifeIn machine key inputs) (closed : State)
    (later : List (Timed Input)) : Type 0 where
  pub earlier : List (Timed Input)
  pub held : Life
  pub given : Timed Input
  pub trigger : Trigger
  pub are : life.rest ≡ earlier ++ (given ∷ later)
  pub holds : state_from machine key None (life.first ∷ earlier) ≡ Some held
  pub triggered : trigger_of (Some held) given.moment given.input ≡ Some trigger
  pub leads : final_step (role_of key) held.state trigger ≡ Some closed

-- From the final response on, whatever else comes, a transaction is held in one state for its time,
-- until a tick at its end or later, and not longer. For the server of an INVITE that was rejected
-- this holds from the ACK on. Only the user ends it sooner, or a failed send of its ACK.
abbrev pub ClosedInTime : Machine Key Life (Timed Input) Out → Type 0
ClosedInTime machine = (key : Key) (inputs : List (Timed Input)) (life : LifeIn machine key inputs)
    (closed : State) (time : ℕ) (later : List (Timed Input)) (closes : Closes life closed later)
    → closing_time (role_of key) closed ≡ Some time
    → state_of (state_left life)
    ≡ (if has_leave (role_of key) closed (closes.given.moment + time) later then None
    else Some closed)

-- it is gone, or got its ACK
abbrev pub is_gone_or_confirmed : Option State → Bool
is_gone_or_confirmed None = true
is_gone_or_confirmed (Some Confirmed) = true
is_gone_or_confirmed (Some state) = false

-- A server of an INVITE that was rejected stays so until its ACK, or until a tick 64*T1 later, when
-- timer H fires (RFC 3261, section 17.2.1); then it is gone, or got its ACK.
abbrev pub RejectedInTime : Machine Key Life (Timed Input) Out → Type 0
RejectedInTime machine = (key : Key) (inputs : List (Timed Input))
    (life : LifeIn machine key inputs) (later : List (Timed Input))
    (closes : Closes life Completed later) → role_of key ≡ InviteServer
    → let leaves = has_leave InviteServer Completed (closes.given.moment + 64*T1) later in
    (leaves ≡ false → state_of (state_left life) ≡ Some Completed)
    × (leaves ≡ true → is_gone_or_confirmed (state_of (state_left life)) ≡ true)
