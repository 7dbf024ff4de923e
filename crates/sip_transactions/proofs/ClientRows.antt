-- What a row of a client's table sends, and the states that it enters.
use Rattle.std.proofs.Common.{◌≡◌, ℕ, ◌+◌, ◌≤◌, Bool, true, false, cond, ◌&&◌, List, refl, sym, ◌∙◌, ap, arith, codes, zero-add}
use Rattle.std.specs.Prelude.{not, Option, None, Some, IsSome, option_map, option_to_list}
use Rattle.std.specs.Str.{bytes_eq}
use Rattle.std.proofs.lemmas.Bool.{false≢true}
use Rattle.std.proofs.lemmas.List.Sums.{sum_by-append}
use Rattle.sip_timers.specs.Queue.{is_due}
use Rattle.sip_message.specs.declared.addr.Addr.{Addr}
use Rattle.sip_message.specs.declared.key.Key.{Key}
use Rattle.sip_message.specs.declared.message.Message.{Message}
use Rattle.sip_message.specs.declared.start_line.StartLine.{StartLine}
use Rattle.sip_message.specs.declared.start_line.StartLine.TheVariants as start
use Rattle.sip_message.specs.HopByHop.{ack_of}
use Rattle.sip_message.specs.Written.{written}
use Rattle.sip_transactions.specs.declared.input.Input.{Input}
use Rattle.sip_transactions.specs.declared.input.Input.TheVariants.{Receive, Start, Answer, Failed, Abandon}
use Rattle.sip_transactions.specs.declared.life.Context.{Context}
use Rattle.sip_transactions.specs.declared.life.Life.{Life}
use Rattle.sip_transactions.specs.declared.output.Out.{Out}
use Rattle.sip_transactions.specs.declared.state.Role.{Role}
use Rattle.sip_transactions.specs.declared.state.Role.TheVariants.{InviteClient, Client, InviteServer, Server}
use Rattle.sip_transactions.specs.declared.state.State.{State}
use Rattle.sip_transactions.specs.declared.state.State.TheVariants.{Completed}
use Rattle.sip_transactions.specs.declared.step.Due.{Due}
use Rattle.sip_transactions.specs.declared.step.Due.TheVariants.{Keep, Clear, Ending, Both, Again}
use Rattle.sip_transactions.specs.declared.step.UpAction.{UpAction}
use Rattle.sip_transactions.specs.declared.step.UpAction.TheVariants as up
use Rattle.sip_transactions.specs.declared.step.Next.{Next}
use Rattle.sip_transactions.specs.declared.step.Next.TheVariants.{Same, Ended, Become}
use Rattle.sip_transactions.specs.declared.step.Sent.{Sent}
use Rattle.sip_transactions.specs.declared.step.Sent.TheVariants as send
use Rattle.sip_transactions.specs.declared.step.Step.{Step}
use Rattle.sip_transactions.specs.declared.trigger.Trigger.{Trigger}
use Rattle.sip_transactions.specs.declared.trigger.Trigger.TheVariants as on
use Rattle.sip_transactions.specs.Steps.Input.{trigger_of, is_same_method, arrival_of, answer_of, class_of, message_in}
use Rattle.sip_transactions.specs.Laws.{is_send_of, sends_of}
use Rattle.sip_transactions.specs.Steps.Life.{life_in, entered, keeps_request}
use Rattle.sip_transactions.specs.Steps.Output.{outputs_of, handed_out, made_of, made_bytes, sent_bytes, send_out}
use Rattle.sip_transactions.specs.Rows.{rows_of}
use Rattle.sip_transactions.proofs.AckTexts.{Apart, first_of, ack_apart}
use Rattle.sip_transactions.proofs.Firings.{is_client, Paced, left, paces, is_plain}
use Rattle.sip_transactions.proofs.RowFacts.{by_test, table_passes}

-- the state in which a client of an INVITE sends its ACK again
abbrev pub is_acked : Role → State → Bool
is_acked InviteClient Completed = true
is_acked role state = false

pub record Fit (role : Role) (text : List ℕ) (life : Life) : Type 0 where
  pub paced : Paced role life.context.timers.repeat life.context.timers.fired
      life.context.timers.ending
  pub apart : is_acked role life.state ≡ true → Apart text life.context.last
  pub keeps : keeps_request role ≡ true → IsSome life.context.request

unfoldable pub FitAfter : Role → List ℕ → Option Life → Type 0
FitAfter role text None = Unit {0}
FitAfter role text (Some life) = Fit role text life

abbrev pub budget : Role → Option Life → ℕ
budget role None = 0
budget role (Some life) = left role life.context.timers.repeat life.context.timers.fired

pub record Few (role : Role) (text : List ℕ) (room : ℕ) (after : Option Life × List Out)
    : Type 0 where
  pub few : sends_of text after.1 + budget role after.0 ≤ room
  pub fit : FitAfter role text after.0

-- a row doesn't enter the state in which an ACK is sent again
abbrev enters_no_ack : Role → Next → Bool
enters_no_ack role Same = true
enters_no_ack role Ended = true
enters_no_ack role (Become state) = not (is_acked role state)

abbrev is_same : Next → Bool
is_same Same = true
is_same Ended = false
is_same (Become state) = false

abbrev is_keep : Due → Bool
is_keep Keep = true
is_keep Clear = false
is_keep (Ending after) = false
is_keep Both = false
is_keep (Again pace) = false

abbrev pub is_repeat : Trigger → Bool
is_repeat on.RetransmitDue = true
is_repeat trigger = false

abbrev comes_as_response : Trigger → Bool
comes_as_response (on.Response class) = true
comes_as_response trigger = false

-- what a client's row sends if a life is held: nothing; the latest message again, since the repeat
-- is due or as an ACK; or a new ACK
abbrev pub sends_well : Role → State → Trigger → Next → Sent → Due → Bool
sends_well role state trigger next send.Nothing due = is_plain due && enters_no_ack role next
sends_well role state trigger next send.Given due = false
sends_well role state trigger next send.Latest (Again pace) =
    is_repeat trigger && (paces role (Again pace) && is_same next)
sends_well role state trigger next send.Latest due =
    is_acked role state && (is_keep due && is_same next)
sends_well role state trigger next send.Trying due = false
sends_well role state trigger next send.Ack due =
    keeps_request role && (is_plain due && comes_as_response trigger)

-- and if none is held: the request, with both due moments, at the start
abbrev pub starts_well : Role → Trigger → Next → Sent → Due → Bool
starts_well role on.Start (Become state) send.Given Both = not (is_acked role state)
starts_well role on.Start next sent due = false
starts_well role trigger next sent due = true

abbrev pub client_row : Role → Option State → Trigger → Step → Bool
client_row role None trigger step = starts_well role trigger step.next step.sent step.due
client_row role (Some state) trigger step =
    sends_well role state trigger step.next step.sent step.due

pub client_tables : (role : Role) → is_client role ≡ true
    → table_passes (client_row role) (rows_of role) ≡ true
client_tables InviteClient client = refl
client_tables Client client = refl
client_tables InviteServer client = absurd (false≢true client)
client_tables Server client = absurd (false≢true client)

-- what is handed up or dropped isn't sent
none_sent : (text : List ℕ) (key : Key) (context : Context) (handed : UpAction)
    (arrived : Option (Message × Addr))
    → sends_of text (option_to_list (handed_out key context handed arrived)) ≡ 0
unfolding handed_out
none_sent text key context up.Nothing arrived = refl
none_sent text key context up.Message None = refl
none_sent text key context up.Message (Some came) = refl
none_sent text key context up.Timeout arrived = refl
none_sent text key context up.Failed arrived = refl
none_sent text key context up.NoTransaction arrived = refl

abbrev sends : Key → Context → Sent → Option (List ℕ) → List Out
sends key context sent made =
    option_to_list (option_map (send_out key context.to) (sent_bytes context.last sent made))

pub sends-outputs : (text : List ℕ) (key : Key) (context : Context) (step : Step)
    (made : Option (List ℕ))
    (arrived : Option (Message × Addr))
    → sends_of text (outputs_of key context step made arrived)
    ≡ sends_of text (sends key context step.sent made)
unfolding outputs_of
sends-outputs text key context step made arrived =
    sum_by-append (λ o. cond (is_send_of text o) 1 0)
    (option_to_list (handed_out key context step.handed arrived)) (sends key context step.sent made)
    ∙ ap (λ n. n + sends_of text (sends key context step.sent made))
    (none_sent text key context step.handed arrived) ∙ zero-add _

one_or_none : (b : Bool) → 0 + cond {A = ℕ} b 1 0 ≤ 1
one_or_none true = omega arith
one_or_none false = omega arith

pub one_send : (text : List ℕ) (key : Key) (to : Addr) (o : Option (List ℕ))
    → sends_of text (option_to_list (option_map (send_out key to) o)) ≤ 1
one_send text key to None = omega arith
one_send text key to (Some bytes) = one_or_none (bytes_eq bytes text)

pub no_send : (text : List ℕ) (key : Key) (to : Addr) (o : Option (List ℕ)) → Apart text o
    → sends_of text (option_to_list (option_map (send_out key to) o)) ≡ 0
unfolding Apart
no_send text key to None apart = refl
no_send text key to (Some bytes) apart = ap (λ b. 0 + cond {A = ℕ} b 1 0) apart

pub none-made : (request message : Option Message) → made_bytes request send.Nothing message ≡ None
unfolding made_of
none-made request None = refl
none-made request (Some m) = refl

pub latest-made : (request message : Option Message) → made_bytes request send.Latest message ≡ None
unfolding made_of
latest-made request None = refl
latest-made request (Some m) = refl

-- the state after a row
pub none_entered : (role : Role) (text : List ℕ) (next : Next) (state : State) (context : Context)
    (room : ℕ) (outs : List Out) → enters_no_ack role next ≡ true
    → Fit role text (life_in context state)
    → left role context.timers.repeat context.timers.fired ≤ room → sends_of text outs ≡ 0
    → Few role text room (option_map (life_in context) (entered next (Some state)), outs)
unfolding FitAfter
none_entered role text Same state context room outs ok fit fewer silent =
    record { few = omega arith; fit = fit }
none_entered role text Ended state context room outs ok fit fewer silent =
    record { few = omega arith; fit = tt }
none_entered role text (Become new) state context room outs ok fit fewer silent = record {
  few = omega arith;
  fit = record {
    paced = fit.paced;
    apart = λ acked. absurd (false≢true (sym (ap not acked) ∙ ok));
    keeps = fit.keeps;
  };
}

pub acked_entered : (role : Role) (text : List ℕ) (next : Next) (state : State) (context : Context)
    (room : ℕ) (outs : List Out) → Apart text context.last → Fit role text (life_in context state)
    → left role context.timers.repeat context.timers.fired ≤ room → sends_of text outs ≡ 0
    → Few role text room (option_map (life_in context) (entered next (Some state)), outs)
unfolding FitAfter
acked_entered role text Same state context room outs apart fit fewer silent =
    record { few = omega arith; fit = fit }
acked_entered role text Ended state context room outs apart fit fewer silent =
    record { few = omega arith; fit = tt }
acked_entered role text (Become new) state context room outs apart fit fewer silent = record {
  few = omega arith;
  fit = record { paced = fit.paced; apart = λ acked. apart; keeps = fit.keeps };
}

-- the triggers
tick_repeat : (e r : Bool) (trigger : Trigger)
    → cond e (Some on.TimeoutDue) (cond r (Some on.RetransmitDue) None) ≡ Some trigger
    → is_repeat trigger ≡ true → (r ≡ true) × (e ≡ false)
tick_repeat true r trigger is repeat =
    let same : on.TimeoutDue ≡ trigger = cc in absurd (false≢true (ap is_repeat same ∙ repeat))
tick_repeat false true trigger is repeat = (refl, refl)
tick_repeat false false trigger is repeat = cc

tick_response : (e r : Bool) (trigger : Trigger)
    → cond e (Some on.TimeoutDue) (cond r (Some on.RetransmitDue) None) ≡ Some trigger
    → comes_as_response trigger ≡ true → ⊥
tick_response true r trigger is response =
    let same : on.TimeoutDue ≡ trigger = cc in false≢true (ap comes_as_response same ∙ response)
tick_response false true trigger is response =
    let same : on.RetransmitDue ≡ trigger = cc in false≢true (ap comes_as_response same ∙ response)
tick_response false false trigger is response = cc

arrival_no_repeat : (line : StartLine) (method : List ℕ)
    → is_repeat (arrival_of line method) ≡ false
arrival_no_repeat (start.Request uri) method =
    by_test (is_same_method method (codes "ACK"))
    (λ ack. ap (λ b. is_repeat (cond b on.Ack on.Request)) ack)
    (λ other. ap (λ b. is_repeat (cond b on.Ack on.Request)) other)
arrival_no_repeat (start.Response status reason) method = refl

answer_no_repeat : (line : StartLine) (trigger : Trigger) → answer_of line ≡ Some trigger
    → is_repeat trigger ≡ true → ⊥
answer_no_repeat (start.Request uri) trigger is repeat = cc
answer_no_repeat (start.Response status reason) trigger is repeat =
    let same : on.Answer (class_of status) ≡ trigger = cc in false≢true (ap is_repeat same ∙ repeat)

pub repeat_due : (life : Life) (now : ℕ) (input : Option Input) (trigger : Trigger)
    → trigger_of (Some life) now input ≡ Some trigger → is_repeat trigger ≡ true
    → (is_due now life.context.timers.repeat ≡ true)
    × (is_due now life.context.timers.ending ≡ false)
repeat_due life now None trigger is repeat =
    tick_repeat (is_due now life.context.timers.ending) (is_due now life.context.timers.repeat)
    trigger is repeat
repeat_due life now (Some (Receive id message reply_to)) trigger is repeat =
    let same : arrival_of message.start message.cseq.method ≡ trigger = cc in
    absurd (false≢true (sym (arrival_no_repeat message.start message.cseq.method)
    ∙ ap is_repeat same ∙ repeat))
repeat_due life now (Some (Start id call_id message to)) trigger is repeat =
    let same : on.Start ≡ trigger = cc in absurd (false≢true (ap is_repeat same ∙ repeat))
repeat_due life now (Some (Answer id message)) trigger is repeat =
    absurd (answer_no_repeat message.start trigger is repeat)
repeat_due life now (Some (Failed id)) trigger is repeat =
    let same : on.Failed ≡ trigger = cc in absurd (false≢true (ap is_repeat same ∙ repeat))
repeat_due life now (Some Abandon) trigger is repeat = cc

pub response_message : (life : Life) (now : ℕ) (input : Option Input) (trigger : Trigger)
    → trigger_of (Some life) now input ≡ Some trigger → comes_as_response trigger ≡ true
    → IsSome (message_in input)
response_message life now None trigger is response =
    absurd (tick_response (is_due now life.context.timers.ending)
    (is_due now life.context.timers.repeat) trigger is response)
response_message life now (Some (Receive id message reply_to)) trigger is response = refl
response_message life now (Some (Start id call_id message to)) trigger is response = refl
response_message life now (Some (Answer id message)) trigger is response = refl
response_message life now (Some (Failed id)) trigger is response =
    let same : on.Failed ≡ trigger = cc in
    absurd (false≢true (ap comes_as_response same ∙ response))
response_message life now (Some Abandon) trigger is response = cc

-- an ACK that is made isn't the INVITE
pub record IsApart (text : List ℕ) (made : Option (List ℕ)) : Type 0 where
  pub bytes : List ℕ
  pub is : made ≡ Some bytes
  pub apart : bytes_eq bytes text ≡ false

pub ack_made : (text : List ℕ) → first_of text ≡ Some 73 → (request message : Option Message)
    → IsSome request → IsSome message → IsApart text (made_bytes request send.Ack message)
unfolding made_of
ack_made text invite None message one other = absurd (false≢true one)
ack_made text invite (Some request) None one other = absurd (false≢true other)
ack_made text invite (Some request) (Some message) one other =
    record {
      bytes = written (ack_of request message);
      is = refl;
      apart = ack_apart request message text invite;
    }
