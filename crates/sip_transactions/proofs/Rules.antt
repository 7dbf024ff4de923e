-- The rules of transactions say the same as the steps of the code.
use Rattle.std.proofs.Common.{◌≡◌, ℕ, Bool, true, false, List, [], ◌++◌, refl, sym, ◌∙◌, ap, subst}
use Rattle.std.specs.Prelude.{codes, Option, None, Some, if◌then◌else◌, option_and_then, option_map, option_to_list, unwrap_or}
use Rattle.std.specs.Option.{option_map_or, option_or}
use Rattle.std.specs.Str.{bytes_eq}
use Rattle.sip_message.specs.HopByHop.{ack_of}
use Rattle.sip_message.specs.Written.{written}
use Rattle.sip_message.specs.declared.addr.Addr.{Addr}
use Rattle.sip_message.specs.declared.id.Id.{Id}
use Rattle.sip_message.specs.declared.key.Key.{Key}
use Rattle.sip_message.specs.declared.key.Key.TheVariants as key
use Rattle.sip_message.specs.declared.message.Message.{Message}
use Rattle.sip_message.specs.declared.sent_by.SentBy.{SentBy}
use Rattle.sip_message.specs.declared.start_line.StartLine.{StartLine}
use Rattle.sip_message.specs.declared.start_line.StartLine.TheVariants as start
use Rattle.sip_timers.specs.Queue.{is_due}
use Rattle.keyed_machine.specs.Machine.{Machine, Timed}
use Rattle.sip_transactions.specs.declared.input.Input.{Input}
use Rattle.sip_transactions.specs.declared.input.Input.TheVariants as input
use Rattle.sip_transactions.specs.declared.life.Context.{Context}
use Rattle.sip_transactions.specs.declared.life.Life.{Life}
use Rattle.sip_transactions.specs.declared.output.UpKind.{UpKind}
use Rattle.sip_transactions.specs.declared.output.UpKind.TheVariants as kind
use Rattle.sip_transactions.specs.declared.output.Out.{Out}
use Rattle.sip_transactions.specs.declared.output.Out.TheVariants.{Up, Send}
use Rattle.sip_transactions.specs.declared.state.Role.TheVariants.{InviteClient, Client, InviteServer, Server}
use Rattle.sip_transactions.specs.declared.state.State.{State}
use Rattle.sip_transactions.specs.declared.state.State.TheVariants.{Calling, Trying, Proceeding, Completed, Accepted, Confirmed}
use Rattle.sip_transactions.specs.declared.step.Due.{Due}
use Rattle.sip_transactions.specs.declared.step.Due.TheVariants.{Keep, Clear, Ending, Both, Again}
use Rattle.sip_transactions.specs.declared.step.UpAction.{UpAction}
use Rattle.sip_transactions.specs.declared.step.UpAction.TheVariants as up
use Rattle.sip_transactions.specs.declared.step.Next.{Next}
use Rattle.sip_transactions.specs.declared.step.Next.TheVariants.{Same, Ended, Become}
use Rattle.sip_transactions.specs.declared.step.Pace.TheVariants.{Doubled, Capped, Even}
use Rattle.sip_transactions.specs.declared.step.Sent.{Sent}
use Rattle.sip_transactions.specs.declared.step.Sent.TheVariants as send
use Rattle.sip_transactions.specs.declared.step.Step.{Step}
use Rattle.sip_transactions.specs.declared.trigger.Class.TheVariants as class
use Rattle.sip_transactions.specs.declared.trigger.Trigger.{Trigger}
use Rattle.sip_transactions.specs.declared.trigger.Trigger.TheVariants as on
use Rattle.sip_transactions.specs.Dues.{Dues}
use Rattle.sip_transactions.specs.Machine.{transaction_machine}
use Rattle.sip_transactions.specs.Steps.Input.{answer_of, arrival_of, arrived_in, class_of, is_same_method, message_in, role_of}
use Rattle.sip_transactions.specs.Steps.Life.{armed, context_by, context_of, entered, keeps_request, last_of, life_after, life_in, state_of, step_for, step_machine, stepped, stepped_by}
use Rattle.sip_transactions.specs.Steps.Life as steps
use Rattle.sip_transactions.specs.Steps.Output.{handed_out, kind_of, made_bytes, made_of, outputs_of, sent_bytes}
use Rattle.sip_transactions.specs.Rows.{Row, client_rows, invite_client_rows, invite_server_rows, row_of, rows_of, server_rows}
use Rattle.sip_transactions.specs.Timers.{rearmed}
use Rattle.sip_transactions.specs.Rules.Step.{row_applied, context_at_first, trigger_of_message, handed_up, step_at, text_sent}
use Rattle.sip_transactions.specs.Rules.Tables.{client, invite_client, invite_server, server, table}
use Rattle.sip_transactions.specs.Rules.Timers.{timers_after}
use Rattle.sip_transactions.proofs.LawSteps.{abandoned}

-- ---- the tables

-- the row that fits; if none does, a row that does nothing
abbrev row_or : Option Step → Step
row_or found = unwrap_or found
    (record { next = Same; handed = up.Nothing; sent = send.Nothing; due = Keep })

abbrev At : (Option State → Trigger → Step) → List Row → Option State → Trigger → Type 0
At table rows state trigger = table state trigger ≡ row_or (row_of rows state trigger)

abbrev InState : (Option State → Trigger → Step) → List Row → Option State → Type 0
InState table rows s =
    At table rows s on.Start × At table rows s on.RetransmitDue × At table rows s on.TimeoutDue
    × At table rows s on.Failed × At table rows s on.Request × At table rows s on.Ack
    × At table rows s (on.Response class.Trying) × At table rows s (on.Response class.Provisional)
    × At table rows s (on.Response class.Success) × At table rows s (on.Response class.Failure)
    × At table rows s (on.Answer class.Trying) × At table rows s (on.Answer class.Provisional)
    × At table rows s (on.Answer class.Success) × At table rows s (on.Answer class.Failure)

in_state : (t : Option State → Trigger → Step) (rows : List Row) (s : Option State)
    → InState t rows s → (trigger : Trigger) → At t rows s trigger
in_state t rows s e on.Start = e.0
in_state t rows s e on.RetransmitDue = e.1
in_state t rows s e on.TimeoutDue = e.2
in_state t rows s e on.Failed = e.3
in_state t rows s e on.Request = e.4
in_state t rows s e on.Ack = e.5
in_state t rows s e (on.Response class.Trying) = e.6
in_state t rows s e (on.Response class.Provisional) = e.7
in_state t rows s e (on.Response class.Success) = e.8
in_state t rows s e (on.Response class.Failure) = e.9
in_state t rows s e (on.Answer class.Trying) = e.10
in_state t rows s e (on.Answer class.Provisional) = e.11
in_state t rows s e (on.Answer class.Success) = e.12
in_state t rows s e (on.Answer class.Failure) = e.13

abbrev EachState : (Option State → Trigger → Step) → List Row → Type 0
EachState t rows =
    InState t rows None × InState t rows (Some Calling) × InState t rows (Some Trying)
    × InState t rows (Some Proceeding) × InState t rows (Some Completed)
    × InState t rows (Some Accepted) × InState t rows (Some Confirmed)

in_each : (t : Option State → Trigger → Step) (rows : List Row) → EachState t rows
    → (s : Option State) (trigger : Trigger) → At t rows s trigger
in_each t rows e None = in_state t rows None e.0
in_each t rows e (Some Calling) = in_state t rows (Some Calling) e.1
in_each t rows e (Some Trying) = in_state t rows (Some Trying) e.2
in_each t rows e (Some Proceeding) = in_state t rows (Some Proceeding) e.3
in_each t rows e (Some Completed) = in_state t rows (Some Completed) e.4
in_each t rows e (Some Accepted) = in_state t rows (Some Accepted) e.5
in_each t rows e (Some Confirmed) = in_state t rows (Some Confirmed) e.6

each_invite_client : EachState invite_client invite_client_rows
each_invite_client = (
  (refl, refl, refl, refl, refl, refl, refl, refl, refl, refl, refl, refl, refl, refl),
  (refl, refl, refl, refl, refl, refl, refl, refl, refl, refl, refl, refl, refl, refl),
  (refl, refl, refl, refl, refl, refl, refl, refl, refl, refl, refl, refl, refl, refl),
  (refl, refl, refl, refl, refl, refl, refl, refl, refl, refl, refl, refl, refl, refl),
  (refl, refl, refl, refl, refl, refl, refl, refl, refl, refl, refl, refl, refl, refl),
  (refl, refl, refl, refl, refl, refl, refl, refl, refl, refl, refl, refl, refl, refl),
  (refl, refl, refl, refl, refl, refl, refl, refl, refl, refl, refl, refl, refl, refl),
)

each_client : EachState client client_rows
each_client = (
  (refl, refl, refl, refl, refl, refl, refl, refl, refl, refl, refl, refl, refl, refl),
  (refl, refl, refl, refl, refl, refl, refl, refl, refl, refl, refl, refl, refl, refl),
  (refl, refl, refl, refl, refl, refl, refl, refl, refl, refl, refl, refl, refl, refl),
  (refl, refl, refl, refl, refl, refl, refl, refl, refl, refl, refl, refl, refl, refl),
  (refl, refl, refl, refl, refl, refl, refl, refl, refl, refl, refl, refl, refl, refl),
  (refl, refl, refl, refl, refl, refl, refl, refl, refl, refl, refl, refl, refl, refl),
  (refl, refl, refl, refl, refl, refl, refl, refl, refl, refl, refl, refl, refl, refl),
)

each_invite_server : EachState invite_server invite_server_rows
each_invite_server = (
  (refl, refl, refl, refl, refl, refl, refl, refl, refl, refl, refl, refl, refl, refl),
  (refl, refl, refl, refl, refl, refl, refl, refl, refl, refl, refl, refl, refl, refl),
  (refl, refl, refl, refl, refl, refl, refl, refl, refl, refl, refl, refl, refl, refl),
  (refl, refl, refl, refl, refl, refl, refl, refl, refl, refl, refl, refl, refl, refl),
  (refl, refl, refl, refl, refl, refl, refl, refl, refl, refl, refl, refl, refl, refl),
  (refl, refl, refl, refl, refl, refl, refl, refl, refl, refl, refl, refl, refl, refl),
  (refl, refl, refl, refl, refl, refl, refl, refl, refl, refl, refl, refl, refl, refl),
)

each_server : EachState server server_rows
each_server = (
  (refl, refl, refl, refl, refl, refl, refl, refl, refl, refl, refl, refl, refl, refl),
  (refl, refl, refl, refl, refl, refl, refl, refl, refl, refl, refl, refl, refl, refl),
  (refl, refl, refl, refl, refl, refl, refl, refl, refl, refl, refl, refl, refl, refl),
  (refl, refl, refl, refl, refl, refl, refl, refl, refl, refl, refl, refl, refl, refl),
  (refl, refl, refl, refl, refl, refl, refl, refl, refl, refl, refl, refl, refl, refl),
  (refl, refl, refl, refl, refl, refl, refl, refl, refl, refl, refl, refl, refl, refl),
  (refl, refl, refl, refl, refl, refl, refl, refl, refl, refl, refl, refl, refl, refl),
)

-- the table of a key
of_client : (invite : Bool) (s : Option State) (trigger : Trigger)
    → At (if invite then invite_client else client)
    (rows_of (if invite then InviteClient else Client)) s trigger
of_client true = in_each invite_client invite_client_rows each_invite_client
of_client false = in_each client client_rows each_client

of_server : (invite : Bool) (s : Option State) (trigger : Trigger)
    → At (if invite then invite_server else server)
    (rows_of (if invite then InviteServer else Server)) s trigger
of_server true = in_each invite_server invite_server_rows each_invite_server
of_server false = in_each server server_rows each_server

table_is : (key : Key) (s : Option State) (trigger : Trigger)
    → table key s trigger ≡ row_or (row_of (rows_of (role_of key)) s trigger)
unfolding table
table_is (key.Client branch method) s trigger =
    of_client (is_same_method method (codes "INVITE")) s trigger
table_is (key.Server branch sent_by method) s trigger =
    of_server (is_same_method method (codes "INVITE")) s trigger

-- ---- a row

timers_are : (due : Due) (now : ℕ) (timers : Dues)
    → timers_after due now timers ≡ rearmed due now timers
timers_are Keep now timers = refl
timers_are Clear now timers = refl
timers_are (Ending after) now timers = refl
timers_are Both now timers = refl
timers_are (Again Doubled) now timers = refl
timers_are (Again Capped) now timers = refl
timers_are (Again Even) now timers = refl

ack_is : (request : Option Message) (response : Message)
    → option_map (λ invite. written (ack_of invite response)) request
    ≡ option_map written (option_map (λ request. ack_of request response) request)
ack_is None response = refl
ack_is (Some request) response = refl

-- the bytes that a row sends
text_is : (context : Context) (message : Option Message) (sent : Sent)
    → text_sent context message sent
    ≡ sent_bytes context.last sent (made_bytes context.request sent message)
unfolding made_of
text_is context None send.Nothing = refl
text_is context (Some message) send.Nothing = refl
text_is context None send.Given = refl
text_is context (Some message) send.Given = refl
text_is context message send.Latest = refl
text_is context None send.Trying = refl
text_is context (Some message) send.Trying = refl
text_is context None send.Ack = refl
text_is context (Some message) send.Ack = ack_is context.request message

or_same : {T : Type 0} (o : Option T) → option_or o o ≡ o
or_same None = refl
or_same (Some x) = refl

-- what was sent last
last_is : (context : Context) (message : Option Message) (sent : Sent)
    → option_or (text_sent context message sent) context.last
    ≡ option_or (made_bytes context.request sent message) context.last
unfolding made_of
last_is context None send.Nothing = refl
last_is context (Some message) send.Nothing = refl
last_is context None send.Given = refl
last_is context (Some message) send.Given = refl
last_is context None send.Latest = or_same context.last
last_is context (Some message) send.Latest = or_same context.last
last_is context None send.Trying = refl
last_is context (Some message) send.Trying = refl
last_is context None send.Ack = refl
last_is context (Some message) send.Ack =
    ap (λ text. option_or text context.last) (ack_is context.request message)

-- a context after a row
abbrev moved : Context → Option (List ℕ) → Dues → Context
moved context last timers = record context { last = last; timers = timers }

made_is : (made : Option (List ℕ)) (context : Context) (due : Due) (now : ℕ)
    → moved context (option_or made context.last) (rearmed due now context.timers)
    ≡ armed due now (last_of made context)
made_is None context due now = refl
made_is (Some bytes) context due now = refl

context_is : (context : Context) (message : Option Message) (sent : Sent) (due : Due) (now : ℕ)
    → moved context (option_or (text_sent context message sent) context.last)
    (timers_after due now context.timers)
    ≡ armed due now (last_of (made_bytes context.request sent message) context)
context_is context message sent due now =
    (λ i. moved context (last_is context message sent i) (timers_are due now context.timers i))
    ∙ made_is (made_bytes context.request sent message) context due now

next_is : (next : Next) (state : Option State)
    → elim next [ Same ↦ state | Ended ↦ None | Become new ↦ Some new ] ≡ entered next state
next_is Same state = refl
next_is Ended state = refl
next_is (Become new) state = refl

-- how a message that came is handed up
abbrev kind_in : Option Input → Option UpKind
kind_in input = option_map (λ a. kind_of a.0.start a.0 a.1) (arrived_in input)

abbrev hand : Key → Context → UpKind → Out
hand key context kind =
    Up (record { key = key; id = context.id; call_id = context.call_id; kind = kind })

up_is : (key : Key) (context : Context) (arrived : Option (Message × Addr)) (handed : UpAction)
    → handed_up (hand key context) context
    (option_map (λ a. kind_of a.0.start a.0 a.1) arrived) handed
    ≡ handed_out key context handed arrived
unfolding handed_out
up_is key context arrived up.Nothing = refl
up_is key context None up.Message = refl
up_is key context (Some arrived) up.Message = refl
up_is key context arrived up.Timeout = refl
up_is key context arrived up.Failed = refl
up_is key context arrived up.NoTransaction = refl

-- what a row does to a state and a context, in the words of the rules
abbrev by_row : Key → ℕ → Option State → Context → Option Message → Option UpKind → Step
    → Option Life × List Out
by_row key now state context message trigger_of_message row = (
  option_map (life_in (moved context (option_or (text_sent context message row.sent) context.last)
      (timers_after row.due now context.timers)))
      (elim row.next [ Same ↦ state | Ended ↦ None | Become new ↦ Some new ]),
  option_to_list (handed_up (hand key context) context trigger_of_message row.handed)
      ++ option_to_list (option_map (Send key context.to) (text_sent context message row.sent)),
)

row_is : (key : Key) (now : ℕ) (input : Option Input) (state : Option State) (context : Context)
    (row : Step)
    → by_row key now state context (message_in input) (kind_in input) row
    ≡ steps.acted key now input state context row
unfolding life_after outputs_of
row_is key now input state context row =
    let after = context_is context (message_in input) row.sent row.due now in
    let next = next_is row.next state in
    let up = up_is key context (arrived_in input) row.handed in
    let text = text_is context (message_in input) row.sent in
    λ i. (
      option_map (life_in (after i)) (next i),
      option_to_list (up i) ++ option_to_list (option_map (Send key context.to) (text i)),
    )

-- ---- an input

abbrev context_in : Option Life → Context → Context
context_in held context_at_first = option_map_or (λ life. life.context) held context_at_first

idle_is : (key : Key) (now : ℕ) (held : Option Life) (context_at_first : Context)
    (message : Option Message)
    (trigger_of_message : Option UpKind)
    → by_row key now (state_of held) (context_in held context_at_first) message trigger_of_message
    (row_or None)
    ≡ (held, [])
idle_is key now None context_at_first message trigger_of_message = refl
idle_is key now (Some life) context_at_first message trigger_of_message = refl

-- an input with a context: a held one, or one that it begins
found_is : (key : Key) (now : ℕ) (input : Option Input) (held : Option Life)
    (context_at_first : Context)
    → context_of (role_of key) held input ≡ Some (context_in held context_at_first)
    → (found : Option Step)
    → by_row key now (state_of held) (context_in held context_at_first) (message_in input)
    (kind_in input)
    (row_or found)
    ≡ stepped_by key held now input found
found_is key now input held context_at_first has None =
    idle_is key now held context_at_first (message_in input) (kind_in input)
found_is key now input held context_at_first has (Some step) =
    row_is key now input (state_of held) (context_in held context_at_first) step
    ∙ λ i. steps.acted_if key now input (state_of held) (sym has i) step

acted_is : (key : Key) (now : ℕ) (input : Option Input) (held : Option Life)
    (context_at_first : Context)
    (trigger : Trigger) → context_of (role_of key) held input
    ≡ Some (context_in held context_at_first)
    → row_applied key now held context_at_first trigger (message_in input) (kind_in input)
    ≡ stepped_by key held now input (row_of (rows_of (role_of key)) (state_of held) trigger)
unfolding row_applied
acted_is key now input held context_at_first trigger has =
    ap (by_row key now (state_of held) (context_in held context_at_first) (message_in input)
    (kind_in input))
    (table_is key (state_of held) trigger)
    ∙ found_is key now input held context_at_first has
    (row_of (rows_of (role_of key)) (state_of held) trigger)

by_ack : (ack : Bool) (message : Message) (reply_to : Addr)
    → ◌≡◌ {A = Trigger × UpKind}
    (if ack then (on.Ack, kind.Ack message) else (on.Request, kind.Request message reply_to)) (
      (if ack then on.Ack else on.Request),
      (if ack then kind.Ack message else kind.Request message reply_to),
    )
by_ack true message reply_to = refl
by_ack false message reply_to = refl

came_is : (line : StartLine) (message : Message) (reply_to : Addr)
    → trigger_of_message line message reply_to
    ≡ (arrival_of line message.cseq.method, kind_of line message reply_to)
came_is (start.Request uri) message reply_to =
    by_ack (is_same_method message.cseq.method (codes "ACK")) message reply_to
came_is (start.Response status reason) message reply_to = refl

-- a message that comes
received_is : (key : Key) (now : ℕ) (held : Option Life) (id : Id) (message : Message)
    (reply_to : Addr)
    → step_at key held now (Some (input.Receive id message reply_to))
    ≡ stepped key held (record {
      moment = now;
      input = Some (input.Receive id message reply_to);
    })
unfolding step_at stepped step_for steps.begun
received_is key now held id message reply_to =
    (λ i. row_applied key now held (context_at_first id message.call_id reply_to None)
    (came_is message.start message reply_to i).0 (Some message)
    (Some (came_is message.start message reply_to i).1))
    ∙ acted_is key now (Some (input.Receive id message reply_to)) held
    (context_at_first id message.call_id reply_to None)
    (arrival_of message.start message.cseq.method)
    (has held)
  where
    has : (held : Option Life)
        → context_of (role_of key) held (Some (input.Receive id message reply_to))
        ≡ Some (context_in held (context_at_first id message.call_id reply_to None))
    has None = refl
    has (Some life) = refl

-- a start
kept : (invite : Bool) (message : Message)
    → ◌≡◌ {A = Option Message}
    (if keeps_request (if invite then InviteClient else Client) then Some message else None)
    (if invite then Some message else None)
kept true message = refl
kept false message = refl

no_start : (invite : Bool) (key : Key) (now : ℕ) (context_at_first : Context)
    (message : Option Message)
    (input : Input)
    → by_row key now None context_at_first message None
    (row_or (row_of (rows_of (if invite then InviteServer else Server)) None on.Start))
    ≡ stepped_by key None now (Some input)
    (row_of (rows_of (if invite then InviteServer else Server)) None on.Start)
no_start true key now context_at_first message input = refl
no_start false key now context_at_first message input = refl

started_at_client : (branch method : List ℕ) (now : ℕ) (held : Option Life) (id : Id)
    (call_id : List ℕ) (message : Message) (to : Addr)
    → step_at (key.Client branch method) held now (Some (input.Start id call_id message to))
    ≡ stepped (key.Client branch method) held (record {
      moment = now;
      input = Some (input.Start id call_id message to);
    })
unfolding step_at stepped step_for steps.begun
started_at_client branch method now held id call_id message to =
    acted_is (key.Client branch method) now (Some (input.Start id call_id message to)) held
    (context_at_first id call_id to (if bytes_eq method (codes "INVITE") then Some message else
    None)) on.Start
    (has held)
  where
    has : (held : Option Life)
        → context_of (role_of (key.Client branch method)) held
        (Some (input.Start id call_id message to))
        ≡ Some (context_in held
        (context_at_first id call_id to (if bytes_eq method (codes "INVITE") then Some message else
        None)))
    has None = λ i.
        Some (context_at_first id call_id to (kept (is_same_method method (codes "INVITE")) message
        i))
    has (Some life) = refl

started_at_server : (branch : List ℕ) (sent_by : SentBy) (method : List ℕ) (now : ℕ)
    (held : Option Life) (id : Id) (call_id : List ℕ) (message : Message) (to : Addr)
    → step_at (key.Server branch sent_by method) held now
    (Some (input.Start id call_id message to))
    ≡ stepped (key.Server branch sent_by method) held (record {
      moment = now;
      input = Some (input.Start id call_id message to);
    })
unfolding step_at stepped step_for steps.begun row_applied
started_at_server branch sent_by method now None id call_id message to =
    let first : Context = context_at_first id call_id to
    (if bytes_eq method (codes "INVITE") then Some message else None) in
    ap (by_row (key.Server branch sent_by method) now None first (Some message) None)
    (table_is (key.Server branch sent_by method) None on.Start)
    ∙ no_start (is_same_method method (codes "INVITE")) (key.Server branch sent_by method) now first
    (Some message) (input.Start id call_id message to)
started_at_server branch sent_by method now (Some life) id call_id message to =
    acted_is (key.Server branch sent_by method) now (Some (input.Start id call_id message to))
    (Some life)
    (context_at_first id call_id to (if bytes_eq method (codes "INVITE") then Some message else
    None))
    on.Start refl

-- an answer
answered_is : (key : Key) (now : ℕ) (life : Life) (id : Id) (message : Message)
    → step_at key (Some life) now (Some (input.Answer id message))
    ≡ stepped key (Some life) (record { moment = now; input = Some (input.Answer id message) })
unfolding step_at stepped step_for
answered_is key now life id message = by message.start
  where
    by : (line : StartLine)
        → ◌≡◌ {A = Option Life × List Out}
        (elim line [
          | start.Request uri ↦ (Some life, [])
          | start.Response status reason ↦
              row_applied key now (Some life) life.context (on.Answer (class_of status))
              (Some message)
              None
        ])
        (stepped_by key (Some life) now (Some (input.Answer id message))
        (option_and_then (row_of (rows_of (role_of key)) (Some life.state)) (answer_of line)))
    by (start.Request uri) = refl
    by (start.Response status reason) =
        acted_is key now (Some (input.Answer id message)) (Some life) life.context
        (on.Answer (class_of status)) refl

-- an answer if nothing is held
unanswered : (key : Key) (now : ℕ) (input : Input) (found : Option Step)
    → steps.begun (role_of key) (Some input) ≡ None
    → stepped_by key None now (Some input) found ≡ (None, [])
unanswered key now input None none = refl
unanswered key now input (Some step) none =
    λ i. steps.acted_if key now (Some input) None (none i) step

-- a tick
ticked_is : (key : Key) (now : ℕ) (life : Life)
    → step_at key (Some life) now None
    ≡ stepped key (Some life) (record { moment = now; input = None })
unfolding step_at stepped step_for
ticked_is key now life =
    by (is_due now life.context.timers.ending) (is_due now life.context.timers.repeat)
  where
    by : (ending repeat : Bool)
        → ◌≡◌ {A = Option Life × List Out}
        (if ending then row_applied key now (Some life) life.context on.TimeoutDue None None
        else if repeat then row_applied key now (Some life) life.context on.RetransmitDue None None
        else (Some life, []))
        (stepped_by key (Some life) now None
        (option_and_then (row_of (rows_of (role_of key)) (Some life.state))
        (if ending then Some on.TimeoutDue else if repeat then Some on.RetransmitDue else None)))
    by true repeat = acted_is key now None (Some life) life.context on.TimeoutDue refl
    by false true = acted_is key now None (Some life) life.context on.RetransmitDue refl
    by false false = refl

pub step_is : (key : Key) (held : Option Life) (now : ℕ) (input : Option Input)
    → step_at key held now input ≡ stepped key held (record { moment = now; input = input })
unfolding step_at stepped step_for steps.begun
step_is key held now (Some (input.Receive id message reply_to)) =
    received_is key now held id message reply_to
step_is (key.Client branch method) held now (Some (input.Start id call_id message to)) =
    started_at_client branch method now held id call_id message to
step_is (key.Server branch sent_by method) held now (Some (input.Start id call_id message to)) =
    started_at_server branch sent_by method now held id call_id message to
step_is key held now (Some input.Abandon) = sym (abandoned key held now)
step_is key None now None = refl
step_is key None now (Some (input.Answer id message)) =
    sym (unanswered key now (input.Answer id message) _ refl)
step_is key None now (Some (input.Failed id)) =
    sym (unanswered key now (input.Failed id) _ refl)
step_is key (Some life) now None = ticked_is key now life
step_is key (Some life) now (Some (input.Answer id message)) = answered_is key now life id message
step_is key (Some life) now (Some (input.Failed id)) =
    acted_is key now (Some (input.Failed id)) (Some life) life.context on.Failed refl

pub machine_is : transaction_machine ≡ step_machine
machine_is =
    λ i. record { step = λ key held timed. step_is key held timed.moment timed.input i }

-- what is true of the machine of the steps is true of the machine of the rules
pub at_steps : (P : Machine Key Life (Timed Input) Out → Type 0) → P step_machine
    → P transaction_machine
at_steps P holds = subst P (sym machine_is) holds
