-- One input of a transaction.
use Rattle.std.specs.Prelude.{ℕ, ◌==◌, nat_lt, if◌then◌else◌, List, [], ◌++◌, codes, Option, None, Some, option_map, option_and_then, option_to_list}
use Rattle.std.specs.Option.{option_map_or, option_or}
use Rattle.std.specs.Str.{bytes_eq}
use Rattle.sip_message.specs.declared.addr.Addr.{Addr}
use Rattle.sip_message.specs.declared.id.Id.{Id}
use Rattle.sip_message.specs.declared.key.Key.{Key}
use Rattle.sip_message.specs.declared.message.Message.{Message}
use Rattle.sip_message.specs.declared.start_line.StartLine.{StartLine}
use Rattle.sip_message.specs.declared.start_line.StartLine.TheVariants as start
use Rattle.sip_message.specs.HopByHop.{ack_of}
use Rattle.sip_message.specs.Key.{method_in}
use Rattle.sip_message.specs.Response.{response_of}
use Rattle.sip_message.specs.Written.{written}
use Rattle.sip_timers.specs.Queue.{is_due}
use Rattle.sip_transactions.specs.declared.input.Input.{Input}
use Rattle.sip_transactions.specs.declared.input.Input.TheVariants.{Receive, Start, Answer, Failed, Abandon}
use Rattle.sip_transactions.specs.declared.life.Context.{Context}
use Rattle.sip_transactions.specs.declared.life.Life.{Life}
use Rattle.sip_transactions.specs.declared.output.DropReason.TheVariants.{NoTransaction}
use Rattle.sip_transactions.specs.declared.output.UpKind.{UpKind}
use Rattle.sip_transactions.specs.declared.output.UpKind.TheVariants as kind
use Rattle.sip_transactions.specs.declared.output.Out.{Out}
use Rattle.sip_transactions.specs.declared.output.Out.TheVariants.{Up, Send, Dropped}
use Rattle.sip_transactions.specs.declared.step.UpAction.{UpAction}
use Rattle.sip_transactions.specs.declared.step.UpAction.TheVariants as up
use Rattle.sip_transactions.specs.declared.step.Next.TheVariants.{Same, Ended, Become}
use Rattle.sip_transactions.specs.declared.step.Sent.{Sent}
use Rattle.sip_transactions.specs.declared.step.Sent.TheVariants as send
use Rattle.sip_transactions.specs.declared.trigger.Class.{Class}
use Rattle.sip_transactions.specs.declared.trigger.Class.TheVariants.{Trying, Provisional, Success, Failure}
use Rattle.sip_transactions.specs.declared.trigger.Trigger.{Trigger}
use Rattle.sip_transactions.specs.declared.trigger.Trigger.TheVariants as on
use Rattle.sip_transactions.specs.Rules.Tables.{table}
use Rattle.sip_transactions.specs.Rules.Timers.{stopped, timers_after}

-- the class of a status code
abbrev pub class_of_status : ℕ → Class
class_of_status code = if code == 100 then Trying else if nat_lt code 200 then Provisional
    else if nat_lt code 300 then Success else Failure

-- a message that came: its trigger, and how it is handed up
abbrev pub trigger_of_message : StartLine → Message → Addr → Trigger × UpKind
trigger_of_message (start.Response status reason) message reply_to =
    (on.Response (class_of_status status), kind.Response message)
trigger_of_message (start.Request uri) message reply_to =
    if bytes_eq message.cseq.method (codes "ACK") then (on.Ack, kind.Ack message)
    else (on.Request, kind.Request message reply_to)

-- what a row sends: the message that the user gave; what was sent last; 100 Trying, without a
-- To tag (sections 8.2.6.2 and 17.2.1); or the ACK of a response of 300 to 699 (section 17.1.1.3)
abbrev pub text_sent : Context → Option Message → Sent → Option (List ℕ)
text_sent context message send.Nothing = None
text_sent context message send.Given = option_map written message
text_sent context message send.Latest = context.last
text_sent context message send.Trying =
    option_map (λ request. written (response_of request 100 (codes "Trying") (codes ""))) message
text_sent context message send.Ack = option_and_then
    (λ response. option_map (λ invite. written (ack_of invite response)) context.request) message

-- what a row hands up; or that it drops what came, under the id of this input (no life is held)
abbrev pub handed_up : (UpKind → Out) → Context → Option UpKind → UpAction → Option Out
handed_up hand context came up.Nothing = None
handed_up hand context came up.Message = option_map hand came
handed_up hand context came up.Timeout = Some (hand kind.Timeout)
handed_up hand context came up.Failed = Some (hand kind.Failed)
handed_up hand context came up.NoTransaction = Some (Dropped context.id.place NoTransaction)

-- The row for a trigger. `message` is what came or what the user gave, `came` how it would go up.
-- `otherwise` is the context with which this input begins a transaction if none is held. The
-- result: the transaction afterwards; and what goes up or is dropped, then what is sent. What goes
-- up has the id and the Call-ID of the input that began the transaction.
unfoldable pub row_applied : Key → ℕ → Option Life → Context → Trigger → Option Message
    → Option UpKind
    → Option Life × List Out
row_applied key now held otherwise trigger message came =
    let context = option_map_or (λ life. life.context) held otherwise in
    let state = option_map (λ life. life.state) held in
    let row = table key state trigger in
    let text = text_sent context message row.sent in
    let last = option_or text context.last in
    let timers = timers_after row.due now context.timers in
    let after : Context = record context { last = last; timers = timers } in
    let hand : UpKind → Out = λ kind.
    Up (record { key = key; id = context.id; call_id = context.call_id; kind = kind }) in (
      option_map (λ state. record { state = state; context = after })
          (elim row.next [ Same ↦ state | Ended ↦ None | Become new ↦ Some new ]),
      option_to_list (handed_up hand context came row.handed)
          ++ option_to_list (option_map (Send key context.to) text),
    )

-- what is held at first: nothing was sent yet, and no timer runs
abbrev pub context_at_first : Id → List ℕ → Addr → Option Message → Context
context_at_first id call_id to request =
    record { id = id; call_id = call_id; to = to; request = request; last = None; timers = stopped }

-- One input of a transaction at a moment, or the moment alone: if both timers are due, only the
-- ending one fires. A request or a start begins a life if none is held; a response or an ACK
-- doesn't. If one is held, a start does nothing (the last row). The client of an INVITE keeps the
-- INVITE for its ACKs. An answer or a failure does nothing if none is held; its id isn't used. A
-- transaction that the user gives up ends, whatever its state, and nothing goes up or out (own).
unfoldable pub step_at : Key → Option Life → ℕ → Option Input → Option Life × List Out
step_at key held now (Some (Receive id message reply_to)) =
    let (trigger, kind) = trigger_of_message message.start message reply_to in
    row_applied key now held (context_at_first id message.call_id reply_to None) trigger
    (Some message) (Some kind)
step_at key held now (Some (Start id call_id message to)) =
    let invite = if bytes_eq (method_in key) (codes "INVITE") then Some message else None in
    row_applied key now held (context_at_first id call_id to invite) on.Start (Some message) None
step_at key held now (Some Abandon) = (None, [])
step_at key None now other = (None, [])
step_at key (Some life) now (Some (Answer id message)) = elim message.start [
  | start.Request uri ↦ (Some life, [])
  | start.Response status reason ↦
      row_applied key now (Some life) life.context (on.Answer (class_of_status status))
      (Some message) None
]
step_at key (Some life) now (Some (Failed id)) =
    row_applied key now (Some life) life.context on.Failed None None
step_at key (Some life) now None =
    let row_for = row_applied key now (Some life) life.context in
    let timers = life.context.timers in
    if is_due now timers.ending then row_for on.TimeoutDue None None
    else if is_due now timers.repeat then row_for on.RetransmitDue None None else (Some life, [])
