-- A transaction's life, and one input of it.
use Rattle.std.specs.Prelude.{ℕ, Bool, true, false, if◌then◌else◌, List, [], Option, None, Some, option_map, option_and_then}
use Rattle.sip_message.specs.declared.addr.Addr.{Addr}
use Rattle.sip_message.specs.declared.id.Id.{Id}
use Rattle.sip_message.specs.declared.key.Key.{Key}
use Rattle.sip_message.specs.declared.message.Message.{Message}
use Rattle.sip_transactions.specs.declared.state.Role.{Role}
use Rattle.sip_transactions.specs.declared.state.Role.TheVariants.{InviteClient, Client, InviteServer, Server}
use Rattle.sip_transactions.specs.declared.state.State.{State}
use Rattle.sip_transactions.specs.declared.input.Input.{Input}
use Rattle.sip_transactions.specs.declared.input.Input.TheVariants.{Receive, Start, Answer, Failed, Abandon}
use Rattle.keyed_machine.specs.Machine.{Machine, Timed}
use Rattle.sip_transactions.specs.declared.life.Context.{Context}
use Rattle.sip_transactions.specs.declared.life.Life.{Life}
use Rattle.sip_transactions.specs.declared.output.Out.{Out}
use Rattle.sip_transactions.specs.declared.step.Step.{Step}
use Rattle.sip_transactions.specs.declared.step.Next.{Next}
use Rattle.sip_transactions.specs.declared.step.Next.TheVariants.{Same, Ended, Become}
use Rattle.sip_transactions.specs.declared.step.Due.{Due}
use Rattle.sip_transactions.specs.declared.step.Due.TheVariants.{Clear}
use Rattle.sip_transactions.specs.declared.step.Sent.TheVariants as send
use Rattle.sip_transactions.specs.declared.step.UpAction.TheVariants as up
use Rattle.sip_transactions.specs.Timers.{rearmed, no_dues}
use Rattle.sip_transactions.specs.Rows.{row_of, rows_of}
use Rattle.sip_transactions.specs.Steps.Input.{role_of, trigger_of, message_in, arrived_in, is_abandon}
use Rattle.sip_transactions.specs.Steps.Output.{outputs_of, made_bytes}

-- the state of the life that is held, if one is
abbrev pub state_of : Option Life → Option State
state_of held = option_map (λ life. life.state) held

-- what a transaction does that the user gives up: it ends
abbrev pub given_up : Step
given_up = record { next = Ended; handed = up.Nothing; sent = send.Nothing; due = Clear }

-- what the row for an input does, if there is one
unfoldable pub step_for : Key → Option Life → ℕ → Option Input → Option Step
step_for key held now input =
    let rows = rows_of (role_of key) in
    if is_abandon input then Some given_up
    else option_and_then (row_of rows (state_of held)) (trigger_of held now input)

-- the client of an INVITE keeps the INVITE, for its ACKs
abbrev pub keeps_request : Role → Bool
keeps_request InviteClient = true
keeps_request Client = false
keeps_request InviteServer = false
keeps_request Server = false

-- the context of this id and this Call-ID before anything was sent or is due
abbrev pub context_by : Id → List ℕ → Addr → Option Message → Context
context_by id call_id to request = record {
  id = id;
  call_id = call_id;
  to = to;
  request = request;
  last = None;
  timers = no_dues;
}

-- the context with which an input begins a life, under its own id and Call-ID
unfoldable pub begun : Role → Option Input → Option Context
begun role (Some (Receive id message reply_to)) =
    Some (context_by id message.call_id reply_to None)
begun role (Some (Start id call_id message to)) =
    Some (context_by id call_id to (if keeps_request role then Some message else None))
begun role None = None
begun role (Some (Answer id message)) = None
begun role (Some (Failed id)) = None
begun role (Some Abandon) = None

-- the context that a row uses: that of the held life, or the one with which the input begins a life
abbrev pub context_of : Role → Option Life → Option Input → Option Context
context_of role None input = begun role input
context_of role (Some life) input = Some life.context

-- the due moments after a row
abbrev pub armed : Due → ℕ → Context → Context
armed due now context = record context { timers = rearmed due now context.timers }

-- what was sent last
abbrev pub last_of : Option (List ℕ) → Context → Context
last_of None context = context
last_of (Some bytes) context = record context { last = Some bytes }

-- the state after a row, if there is one
abbrev pub entered : Next → Option State → Option State
entered Same state = state
entered Ended state = None
entered (Become new) state = Some new

-- a life in this state
abbrev pub life_in : Context → State → Life
life_in context state = record { state = state; context = context }

-- the life after a row that made a message with these bytes, if there is a state after the row
unfoldable pub life_after : Option State → Context → Step → ℕ → Option (List ℕ) → Option Life
life_after state context step now made =
    option_map (life_in (armed step.due now (last_of made context))) (entered step.next state)

-- a row in a state, or in none: the life after it, and what it says
abbrev pub acted : Key → ℕ → Option Input → Option State → Context → Step
    → Option Life × List Out
acted key now input state context step =
    let made = made_bytes context.request step.sent (message_in input) in
    (life_after state context step now made, outputs_of key context step made (arrived_in input))

-- the same for a message that comes while no life is held
abbrev pub acted_at_arrival : Key → ℕ → Id → Message → Addr → Step → Option Life × List Out
acted_at_arrival key now id message reply_to step =
    acted key now (Some (Receive id message reply_to)) None
    (context_by id message.call_id reply_to None) step

-- if no life is held and none begins, a row does nothing
abbrev pub acted_if : Key → ℕ → Option Input → Option State → Option Context → Step
    → Option Life × List Out
acted_if key now input state None step = (None, [])
acted_if key now input state (Some context) step = acted key now input state context step

-- an input: if no row fits, nothing changes and nothing is said
abbrev pub stepped_by : Key → Option Life → ℕ → Option Input → Option Step → Option Life × List Out
stepped_by key held now input None = (held, [])
stepped_by key held now input (Some step) =
    acted_if key now input (state_of held) (context_of (role_of key) held input) step

-- an input of a transaction, from state to state, and what it gives
unfoldable pub stepped : Key → Option Life → Timed Input → Option Life × List Out
stepped key held timed =
    stepped_by key held timed.moment timed.input (step_for key held timed.moment timed.input)

-- the machine of these steps, which is that of the rules
abbrev pub step_machine : Machine Key Life (Timed Input) Out
step_machine = record { step = λ key held timed. stepped key held timed }
