-- How often a request goes out that isn't answered, and a response of 300 to 699 to an INVITE (RFC
-- 3261, sections 17.1.1.2, 17.1.2.2 and 17.2.1).
use Rattle.std.specs.Prelude.{◌≡◌, ℕ, zero, suc, ◌+◌, ◌≤◌, ◌<◌, Bool, true, false, ◌&&◌, ◌==◌, nat_le, if◌then◌else◌, not, codes, List, [], ◌∷◌, ◌++◌, Option, None, Some, IfSome, count_by}
use Rattle.std.specs.List.{list_any}
use Rattle.std.specs.Str.{bytes_eq}
use Rattle.sip_message.specs.declared.addr.Addr.{Addr}
use Rattle.sip_message.specs.declared.id.Id.{Id}
use Rattle.sip_message.specs.declared.key.Key.{Key}
use Rattle.sip_message.specs.declared.key.Key.TheVariants as key
use Rattle.sip_message.specs.declared.message.Message.{Message}
use Rattle.sip_message.specs.Message.{is_request_message}
use Rattle.sip_message.specs.Written.{written}
use Rattle.sip_timers.specs.declared.estimate.TheConstants.{LIFETIME as 64*T1}
use Rattle.keyed_machine.specs.Machine.{LifeIn, Machine, Timed, due_of, given_at, next, outputs_from, tick_at}
use Rattle.sip_transactions.specs.declared.input.Input.{Input}
use Rattle.sip_transactions.specs.declared.input.Input.TheVariants.{Receive, Start, Answer, Failed, Abandon}
use Rattle.sip_transactions.specs.declared.life.Life.{Life}
use Rattle.sip_transactions.specs.declared.output.Out.{Out}
use Rattle.sip_transactions.specs.declared.output.Out.TheVariants as out
use Rattle.sip_transactions.specs.declared.state.Role.TheVariants.{InviteServer}
use Rattle.sip_transactions.specs.declared.state.State.TheVariants.{Completed}
use Rattle.sip_transactions.specs.declared.step.Pace.{Pace}
use Rattle.sip_transactions.specs.declared.step.Pace.TheVariants.{Doubled, Capped}
use Rattle.sip_transactions.specs.Machine.{life_due}
use Rattle.sip_transactions.specs.Rules.Timers.{interval}
use Rattle.sip_transactions.specs.Steps.Input.{role_of}
use Rattle.sip_agent_laws.specs.Transactions.Closing.{Closes, has_leave}

-- the client of an INVITE, by its method
abbrev pub is_invite : List ℕ → Bool
is_invite method = bytes_eq method (codes "INVITE")

-- the interval of timer A is doubled each time, that of timer E too, but it is at most T2
abbrev pub pace_of : List ℕ → Pace
pace_of method = if is_invite method then Doubled else Capped

-- When a message has gone out so often again, at the latest, in ms after it first did, if each
-- firing of timer A, E or G comes at most `lag` ms late. With no lag that is after T1, 3*T1 and
-- 7*T1, and then for timers E and G each T2, for timer A after 15*T1, 31*T1 and 63*T1 (sections
-- 17.1.1.2, 17.1.2.2 and 17.2.1).
abbrev pub latest_repeat : Pace → ℕ → ℕ → ℕ
latest_repeat pace lag zero = 0
latest_repeat pace lag (suc repeats) =
    latest_repeat pace lag repeats + interval pace repeats + lag

-- a tick comes at most `lag` ms after what it finds due
abbrev pub IsInTime : {I : Type 0} → ℕ → Option ℕ → Timed I → Type 0
IsInTime lag due timed =
    timed.input ≡ None → IfSome due (λ moment. timed.moment ≤ moment + lag)

-- so does each tick of these inputs of a key, which is due as `due` says
abbrev pub AreInTime : {K S I O : Type 0} → Machine K S (Timed I) O → (S → Option ℕ) → ℕ → K
    → Option S → List (Timed I) → Type 0
AreInTime machine due lag key held [] = Unit {0}
AreInTime machine due lag key held (timed ∷ inputs) =
    IsInTime lag (due_of due held) timed
    × AreInTime machine due lag key (next machine key held timed) inputs

-- the same of a transaction
abbrev pub TicksInTime : Machine Key Life (Timed Input) Out → ℕ → Key → Option Life
    → List (Timed Input) → Type 0
TicksInTime machine lag key held inputs = AreInTime machine life_due lag key held inputs

-- What ends the wait for the first response: a tick once timer B or F fires, a response, a failed
-- send, and the user.
abbrev pub ends_by : ℕ → ℕ → Option Input → Bool
ends_by end now None = nat_le end now
ends_by end now (Some (Receive id message reply_to)) = not (is_request_message message)
ends_by end now (Some (Start id call_id message to)) = false
ends_by end now (Some (Answer id message)) = false
ends_by end now (Some (Failed id)) = true
ends_by end now (Some Abandon) = true

-- so for an input at its moment
abbrev pub ends_wait : ℕ → Timed Input → Bool
ends_wait end timed = ends_by end timed.moment timed.input

-- the same address
abbrev pub is_address : Addr → Addr → Bool
is_address one other = bytes_eq one.ip other.ip && one.port == other.port

-- a datagram with these bytes goes out to this address
abbrev pub is_copy : Addr → List ℕ → Out → Bool
is_copy to bytes (out.Send key at sent) = is_address at to && bytes_eq sent bytes
is_copy to bytes (out.Up up) = false
is_copy to bytes (out.Dropped place why) = false

-- how often
abbrev pub copies : Addr → List ℕ → List Out → ℕ
copies to bytes outs = count_by (is_copy to bytes) outs

-- A client's request goes out when it is started, and again until the wait ends: by a tick that
-- comes in time, after the latest moment of so many repeats, all these have gone out.
abbrev pub EachRequestIsRepeated : Machine Key Life (Timed Input) Out → Type 0
EachRequestIsRepeated machine = (branch method : List ℕ) (lag repeats now end : ℕ) (id : Id)
    (call_id : List ℕ) (request : Message) (to : Addr) (waiting : List (Timed Input))
    → let key = key.Client branch method in
    let start = given_at now (Start id call_id request to) in
    TicksInTime machine lag key None (start ∷ waiting ++ tick_at end ∷ [])
    → list_any (ends_wait (now + 64*T1)) waiting ≡ false
    → now + latest_repeat (pace_of method) lag repeats < end
    → suc repeats ≤ copies to (written request) (outputs_from machine key None (start ∷ waiting))

-- The same of a response of 300 to 699 to an INVITE, which goes out to the address of the INVITE's
-- answers: when it is given, and again, from timer G, until its ACK comes, timer H fires, or the
-- user gives the transaction up. A failed send doesn't end that.
abbrev pub EachRejectionIsRepeated : Machine Key Life (Timed Input) Out → Type 0
EachRejectionIsRepeated machine = (key : Key) (inputs : List (Timed Input))
    (life : LifeIn machine key inputs) (waiting : List (Timed Input))
    (closes : Closes life Completed waiting) → role_of key ≡ InviteServer
    → (lag repeats came now end : ℕ) (id given : Id) (invite response : Message) (reply_to : Addr)
    → life.first ≡ given_at came (Receive id invite reply_to)
    → closes.given ≡ given_at now (Answer given response)
    → TicksInTime machine lag key (Some closes.held) (closes.given ∷ waiting ++ tick_at end ∷ [])
    → has_leave InviteServer Completed (now + 64*T1) waiting ≡ false
    → now + latest_repeat Capped lag repeats < end
    → suc repeats ≤ copies reply_to (written response)
    (outputs_from machine key (Some closes.held) (closes.given ∷ waiting))
