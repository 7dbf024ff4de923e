-- What an input is to a transaction: its table and its trigger.
use Rattle.std.specs.Prelude.{ℕ, Bool, true, false, ◌==◌, nat_lt, nat_eq, if◌then◌else◌, List, codes, Option, None, Some}
use Rattle.std.specs.Cmp.Lexicographic.{pointwise}
use Rattle.sip_message.specs.declared.addr.Addr.{Addr}
use Rattle.sip_message.specs.declared.key.Key.{Key}
use Rattle.sip_message.specs.declared.key.Key.TheVariants as key
use Rattle.sip_message.specs.declared.message.Message.{Message}
use Rattle.sip_message.specs.declared.start_line.StartLine.{StartLine}
use Rattle.sip_message.specs.declared.start_line.StartLine.TheVariants as start
use Rattle.sip_transactions.specs.declared.state.Role.{Role}
use Rattle.sip_transactions.specs.declared.state.Role.TheVariants as role
use Rattle.sip_transactions.specs.declared.trigger.Class.{Class}
use Rattle.sip_transactions.specs.declared.trigger.Class.TheVariants.{Trying, Provisional, Success, Failure}
use Rattle.sip_transactions.specs.declared.trigger.Trigger.{Trigger}
use Rattle.sip_transactions.specs.declared.trigger.Trigger.TheVariants as on
use Rattle.sip_transactions.specs.declared.input.Input.{Input}
use Rattle.sip_transactions.specs.declared.input.Input.TheVariants.{Receive, Start, Answer, Failed, Abandon}
use Rattle.sip_transactions.specs.declared.life.Life.{Life}
use Rattle.sip_timers.specs.Queue.{is_due}

-- methods are compared with their case
abbrev pub is_same_method : List ℕ → List ℕ → Bool
is_same_method method name = pointwise nat_eq method name

-- the table of a key
abbrev pub role_of : Key → Role
role_of (key.Client branch method) =
    if is_same_method method (codes "INVITE") then role.InviteClient else role.Client
role_of (key.Server branch sent_by method) =
    if is_same_method method (codes "INVITE") then role.InviteServer else role.Server

-- the class of a status code
abbrev pub class_of : ℕ → Class
class_of code = if code == 100 then Trying else if nat_lt code 200 then Provisional
    else if nat_lt code 300 then Success else Failure

-- the message that came or that the user gave
abbrev pub message_in : Option Input → Option Message
message_in None = None
message_in (Some (Receive id message reply_to)) = Some message
message_in (Some (Start id call_id message to)) = Some message
message_in (Some (Answer id message)) = Some message
message_in (Some (Failed id)) = None
message_in (Some Abandon) = None

-- the message that came, and the address of a response to it
abbrev pub arrived_in : Option Input → Option (Message × Addr)
arrived_in None = None
arrived_in (Some (Receive id message reply_to)) = Some (message, reply_to)
arrived_in (Some (Start id call_id message to)) = None
arrived_in (Some (Answer id message)) = None
arrived_in (Some (Failed id)) = None
arrived_in (Some Abandon) = None

-- a message that came, by its start line and its method
abbrev pub arrival_of : StartLine → List ℕ → Trigger
arrival_of (start.Request uri) method =
    if is_same_method method (codes "ACK") then on.Ack else on.Request
arrival_of (start.Response status reason) method = on.Response (class_of status)

-- a message that the user answers with
abbrev pub answer_of : StartLine → Option Trigger
answer_of (start.Request uri) = None
answer_of (start.Response status reason) = Some (on.Answer (class_of status))

-- the trigger of a tick: the end if it is due, otherwise the repeat if it is due, otherwise none
abbrev pub due_of : ℕ → Option ℕ → Option ℕ → Option Trigger
due_of now ending repeat = if is_due now ending then Some on.TimeoutDue else if is_due now repeat
    then Some on.RetransmitDue else None

-- what is due at a moment, the end before the repeat
abbrev pub tick_of : ℕ → Option Life → Option Trigger
tick_of now None = None
tick_of now (Some life) = due_of now life.context.timers.ending life.context.timers.repeat

-- what an input at a moment is to a transaction
abbrev pub trigger_of : Option Life → ℕ → Option Input → Option Trigger
trigger_of held now None = tick_of now held
trigger_of held now (Some (Receive id message reply_to)) =
    Some (arrival_of message.start message.cseq.method)
trigger_of held now (Some (Start id call_id message to)) = Some on.Start
trigger_of held now (Some (Answer id message)) = answer_of message.start
trigger_of held now (Some (Failed id)) = Some on.Failed
trigger_of held now (Some Abandon) = None

-- the user gives the transaction up
abbrev pub is_abandon : Option Input → Bool
is_abandon None = false
is_abandon (Some (Receive id message reply_to)) = false
is_abandon (Some (Start id call_id message to)) = false
is_abandon (Some (Answer id message)) = false
is_abandon (Some (Failed id)) = false
is_abandon (Some Abandon) = true
