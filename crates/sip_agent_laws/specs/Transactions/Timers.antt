-- What the timers of a transaction do at ticks, after any inputs.
use Rattle.std.specs.Prelude.{◌≡◌, ℕ, ◌+◌, ◌≤◌, Bool, true, false, ◌&&◌, nat_le, List, [], ◌∷◌, ◌++◌, Option, None, Some, is_none, option_map}
use Rattle.std.specs.List.{AllByRecursion, list_any}
use Rattle.std.specs.Option.{option_or}
use Rattle.sip_message.specs.declared.key.Key.{Key}
use Rattle.sip_timers.specs.declared.estimate.TheConstants.{LIFETIME as 64*T1}
use Rattle.sip_timers.specs.Queue.{is_due}
use Rattle.keyed_machine.specs.Machine.{Machine, Timed, adds, due_of, next, outputs_from, state_after, tick_at}
use Rattle.sip_transactions.specs.declared.input.Input.{Input}
use Rattle.sip_transactions.specs.declared.life.Life.{Life}
use Rattle.sip_transactions.specs.declared.output.Out.{Out}
use Rattle.sip_transactions.specs.declared.output.Out.TheVariants.{Up, Send, Dropped}
use Rattle.sip_transactions.specs.declared.output.UpKind.TheVariants as kind
use Rattle.sip_transactions.specs.declared.state.Role.{Role}
use Rattle.sip_transactions.specs.declared.state.Role.TheVariants.{InviteClient, InviteServer, Server}
use Rattle.sip_transactions.specs.declared.state.State.{State}
use Rattle.sip_transactions.specs.declared.state.State.TheVariants.{Trying, Proceeding}
use Rattle.sip_transactions.specs.Machine.{life_due}
use Rattle.sip_transactions.specs.Steps.Input.{role_of}

-- one of the inputs is a tick at this moment or later
abbrev pub has_tick_from : ℕ → List (Timed Input) → Bool
has_tick_from moment inputs =
    list_any (λ timed. is_none timed.input && nat_le moment timed.moment) inputs

-- No timer runs: the client of an INVITE after a provisional response (RFC 3261, section 17.1.1.2),
-- and a server without a final response (sections 17.2.1 and 17.2.2).
abbrev pub waits : Role → State → Bool
waits InviteClient Proceeding = true
waits InviteServer Proceeding = true
waits Server Trying = true
waits Server Proceeding = true
waits role state = false

-- What is held waits exactly if none of its timers runs. So what waits is never due.
abbrev pub WaitsWithoutTimers : Machine Key Life (Timed Input) Out → Type 0
WaitsWithoutTimers machine = (key : Key) (inputs : List (Timed Input)) (life : Life)
    → state_after machine key inputs ≡ Some life
    → is_none (life_due life) ≡ waits (role_of key) life.state

-- after a tick nothing is due at its moment: what is due next is due later
abbrev pub NothingLeftDue : Machine Key Life (Timed Input) Out → Type 0
NothingLeftDue machine = (key : Key) (inputs : List (Timed Input)) (now : ℕ)
    → is_due now (due_of life_due (next machine key (state_after machine key inputs) (tick_at now)))
    ≡ false

-- it is gone, or it waits
abbrev pub is_gone_or_waits : Role → Option Life → Bool
is_gone_or_waits role None = true
is_gone_or_waits role (Some life) = waits role life.state

-- a tick, or an input that comes by this moment
abbrev pub ComesBy : ℕ → Timed Input → Type 0
ComesBy moment timed = is_none timed.input ≡ false → timed.moment ≤ moment

-- If the inputs other than ticks came by a moment, in whatever order, then after ticks of which one
-- is 64*T1 later or later still, the transaction is gone or waits.
abbrev pub GoneUnlessWaiting : Machine Key Life (Timed Input) Out → Type 0
GoneUnlessWaiting machine = (key : Key) (moment : ℕ) (inputs ticks : List (Timed Input))
    → AllByRecursion (ComesBy moment) inputs → AllByRecursion (λ timed. timed.input ≡ None) ticks
    → has_tick_from (moment + 64*T1) ticks ≡ true
    → is_gone_or_waits (role_of key) (state_after machine key (inputs ++ ticks)) ≡ true

-- the datagram that was sent last
abbrev pub last_send : List Out → Option Out
last_send [] = None
last_send (Send key to bytes ∷ outs) = option_or (last_send outs) (Some (Send key to bytes))
last_send (other ∷ outs) = last_send outs

-- The repeat (timer A, E or G) is due and the end isn't: what was sent last goes out again, once,
-- and nothing else is said (RFC 3261, sections 17.1.1.2, 17.1.2.2 and 17.2.1).
abbrev pub RepeatedInTime : Machine Key Life (Timed Input) Out → Type 0
RepeatedInTime machine = (key : Key) (inputs : List (Timed Input)) (life : Life) (now : ℕ)
    → state_after machine key inputs ≡ Some life
    → is_due now life.context.timers.repeat ≡ true → is_due now life.context.timers.ending ≡ false
    → Some (adds machine key (Some life) (tick_at now))
    ≡ option_map (λ sent. sent ∷ []) (last_send (outputs_from machine key None inputs))

-- a datagram, or that no answer came
abbrev pub IsQuiet : Out → Type 0
IsQuiet (Up up) = up.kind ≡ kind.Timeout
IsQuiet (Send key to bytes) = Unit {0}
IsQuiet (Dropped place reason) = ⊥

-- a tick hands up no message and drops nothing
abbrev pub TicksAreQuiet : Machine Key Life (Timed Input) Out → Type 0
TicksAreQuiet machine = (key : Key) (held : Option Life) (now : ℕ)
    → AllByRecursion IsQuiet (adds machine key held (tick_at now))
