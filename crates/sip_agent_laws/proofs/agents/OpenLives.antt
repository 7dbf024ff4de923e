-- A transaction without a final response: how one begins, and what keeps it so.
use Rattle.std.proofs.Common.{◌≡◌, ◌⊎◌, inl, inr, ℕ, Bool, true, false, cond, ◌&&◌, ◌||◌, List, refl, sym, ap, ◌∙◌, subst, arith}
use Rattle.std.specs.Prelude.{◌==◌, not, Option, None, Some, is_none, is_some, nat_lt, option_map, option_to_list, unwrap_or, codes, if◌then◌else◌}
use Rattle.std.specs.List.{AllByRecursion}
use Rattle.std.proofs.lemmas.Bool.{false≢true}
use Rattle.std.proofs.lemmas.Grind.{common_steps}
use Rattle.sip_message.specs.declared.addr.Addr.{Addr}
use Rattle.sip_message.specs.declared.id.Id.{Id}
use Rattle.sip_message.specs.declared.key.Key.{Key}
use Rattle.sip_message.specs.declared.message.Message.{Message}
use Rattle.sip_message.specs.declared.start_line.StartLine.{StartLine}
use Rattle.sip_message.specs.declared.start_line.StartLine.TheVariants as start
use Rattle.keyed_machine.proofs.Ordered.{by_bool}
use Rattle.sip_transactions.specs.declared.input.Input.{Input}
use Rattle.sip_transactions.specs.declared.input.Input.TheVariants.{Receive, Start}
use Rattle.sip_transactions.specs.declared.life.Context.{Context}
use Rattle.sip_transactions.specs.declared.life.Life.{Life}
use Rattle.sip_transactions.specs.declared.output.UpKind.{UpKind}
use Rattle.sip_transactions.specs.declared.output.UpKind.TheVariants as kind
use Rattle.sip_transactions.specs.declared.output.Out.{Out}
use Rattle.sip_transactions.specs.declared.output.Out.TheVariants as out
use Rattle.sip_transactions.specs.declared.state.Role.{Role}
use Rattle.sip_transactions.specs.declared.state.Role.TheVariants as role
use Rattle.sip_transactions.specs.declared.state.State.{State}
use Rattle.sip_transactions.specs.declared.step.UpAction.{UpAction}
use Rattle.sip_transactions.specs.declared.step.UpAction.TheVariants as up
use Rattle.sip_transactions.specs.declared.step.Step.{Step}
use Rattle.sip_transactions.specs.declared.trigger.Class.TheVariants as class
use Rattle.sip_transactions.specs.declared.trigger.Trigger.{Trigger}
use Rattle.sip_transactions.specs.declared.trigger.Trigger.TheVariants as on
use Rattle.sip_timers.specs.Queue.{is_due}
use Rattle.sip_transactions.specs.Steps.Input.{answer_of, arrival_of, arrived_in, is_same_method, message_in, role_of, tick_of, trigger_of}
use Rattle.sip_transactions.specs.Steps.Life.{acted_if, armed, begun, context_by, context_of, entered, keeps_request, last_of, life_after, life_in, state_of}
use Rattle.sip_transactions.specs.Rules.Step.{step_at}
use Rattle.sip_transactions.proofs.Rules.{step_is}
use Rattle.sip_transactions.specs.Steps.Output.{arrived_out, handed_out, kind_of, made_bytes, outputs_of}
use Rattle.sip_transactions.specs.Rows.{rows_of}
use Rattle.sip_transactions.proofs.LawSteps.{RowFor, by_step, is_message, is_request}
use Rattle.sip_transactions.proofs.RowFacts.{and-left, and-right, row_passes, table_passes}
use Rattle.sip_agent_laws.specs.Agents.Open.{is_open}
use Rattle.sip_agent_laws.proofs.agents.Lists.{Among, among_left}
use Rattle.sip_agent_laws.proofs.transactions.Inputs.{outputs_each, ups_each}

-- ---- the rows

abbrev pub opens : Role → Option State → Bool
opens r None = false
opens r (Some state) = is_open r state

abbrev is_start : Trigger → Bool
is_start on.Start = true
is_start on.RetransmitDue = false
is_start on.TimeoutDue = false
is_start on.Failed = false
is_start on.Request = false
is_start on.Ack = false
is_start (on.Response c) = false
is_start (on.Answer c) = false

abbrev is_early : Trigger → Bool
is_early (on.Response class.Trying) = true
is_early (on.Response class.Provisional) = true
is_early _ = false

abbrev pub is_server : Role → Bool
is_server role.InviteClient = false
is_server role.Client = false
is_server role.InviteServer = true
is_server role.Server = true

-- the first input of a life: a start, or a request, which is handed up
abbrev is_first : Bool → Trigger → UpAction → Bool
is_first false trigger handed = is_start trigger
is_first true trigger handed = is_request trigger && is_message handed

-- what a client hands up while it stays open: a provisional response
abbrev is_mild : Trigger → UpAction → Bool
is_mild trigger up.Nothing = true
is_mild trigger up.Message = is_early trigger
is_mild trigger up.Timeout = false
is_mild trigger up.Failed = false
is_mild trigger up.NoTransaction = true

-- an open life was open, or begins; a client hands up only provisional responses meanwhile
abbrev opens_rightly : Role → Option State → Trigger → Step → Bool
opens_rightly r state trigger step = not (opens r (entered step.next state))
    || (is_none state || (opens r state && (is_server r || is_mild trigger step.handed)))

rows_open : (r : Role) → table_passes (opens_rightly r) (rows_of r) ≡ true
rows_open role.InviteClient = refl
rows_open _ = refl

-- a life begins with a start or a request
abbrev begins_rightly : Role → Option State → Trigger → Step → Bool
begins_rightly r state trigger step = is_none (entered step.next state)
    || (is_some state || is_first (is_server r) trigger step.handed)

rows_begin : (r : Role) → table_passes (begins_rightly r) (rows_of r) ≡ true
rows_begin role.InviteClient = refl
rows_begin _ = refl

-- ---- one input

-- a provisional response, or nothing at all
abbrev pub KindIsMild : UpKind → Type 0
KindIsMild (kind.Request request reply_to) = ⊥
KindIsMild (kind.Ack ack) = ⊥
KindIsMild (kind.Response response) = (status : ℕ) × (reason : List ℕ)
    × (response.start ≡ start.Response status reason) × (nat_lt status 200 ≡ true)
KindIsMild kind.Timeout = ⊥
KindIsMild kind.Failed = ⊥

abbrev pub IsMild : Out → Type 0
IsMild (out.Up up) = KindIsMild up.kind
IsMild (out.Send key to bytes) = Unit {0}
IsMild (out.Dropped place why) = Unit {0}

-- the life was there, and open if it is open now
pub record IsKept (key : Key) (held : Option Life) (outs : List Out) (life : Life) : Type 0 where
  pub before : Life
  pub was : held ≡ Some before
  pub id : before.context.id ≡ life.context.id
  pub call : before.context.call_id ≡ life.context.call_id
  pub open_before : is_open (role_of key) life.state ≡ true
      → (is_open (role_of key) before.state ≡ true)
      × (is_server (role_of key) ≡ false → AllByRecursion IsMild outs)

-- what is handed up of a request
abbrev pub request_up : Key → Life → Message → Addr → Out
request_up key life message reply_to = out.Up (record {
  key = key;
  id = life.context.id;
  call_id = life.context.call_id;
  kind = kind.Request message reply_to;
})

-- the life begins: with a start, or with a request, which is handed up
pub record IsBegun (key : Key) (held : Option Life) (input : Option Input) (outs : List Out)
    (life : Life) : Type 0 where
  pub none : held ≡ None
  pub started : is_server (role_of key) ≡ false → (message : Message) × (to : Addr)
      × (input ≡ Some (Start life.context.id life.context.call_id message to))
  pub received : is_server (role_of key) ≡ true → (message : Message) × (reply_to : Addr)
      × (input ≡ Some (Receive life.context.id message reply_to))
      × Among outs (request_up key life message reply_to)

abbrev pub LivesOn : Key → Option Life → Option Input → Option Life × List Out → Type 0
LivesOn key held input after = (life : Life) → after.0 ≡ Some life
    → IsKept key held after.1 life ⊎ IsBegun key held input after.1 life

-- the life after a row
leaves : (context : Context) (o : Option State) (life : Life)
    → option_map (life_in context) o ≡ Some life
    → (o ≡ Some life.state) × (context.id ≡ life.context.id)
    × (context.call_id ≡ life.context.call_id)
leaves context None life is = absurd cc
leaves context (Some state) life is =
    let same : life_in context state ≡ life = cc in
    (ap (λ l. Some l.state) same, ap (λ l. l.context.id) same, ap (λ l. l.context.call_id) same)

after_row : (state : Option State) (context : Context) (step : Step) (now : ℕ)
    (made : Option (List ℕ)) (life : Life) → life_after state context step now made ≡ Some life
    → (entered step.next state ≡ Some life.state) × (context.id ≡ life.context.id)
    × (context.call_id ≡ life.context.call_id)
unfolding life_after
after_row state context step now None life is =
    leaves (armed step.due now (last_of None context)) (entered step.next state) life is
after_row state context step now (Some bytes) life is =
    leaves (armed step.due now (last_of (Some bytes) context)) (entered step.next state) life is

-- ---- what a client hands up while it stays open

early_status : (trying provisional success : Bool) (status : ℕ) → (status == 100) ≡ trying
    → nat_lt status 200 ≡ provisional
    → is_early (on.Response (if trying then class.Trying
    else if provisional then class.Provisional else if success then class.Success
    else class.Failure)) ≡ true
    → nat_lt status 200 ≡ true
early_status true provisional success status is small early = grind (arith, common_steps, is)
early_status false true success status is small early = small
early_status false false true status is small early = absurd (false≢true early)
early_status false false false status is small early = absurd (false≢true early)

message_late : (ack : Bool) → is_early (cond ack on.Ack on.Request) ≡ false
message_late true = refl
message_late false = refl

early_kind : (message : Message) (reply_to : Addr) (line : StartLine) → message.start ≡ line
    → is_early (arrival_of line message.cseq.method) ≡ true
    → KindIsMild (kind_of line message reply_to)
early_kind message reply_to (start.Request uri) is early =
    absurd (false≢true (sym (message_late (is_same_method message.cseq.method (codes "ACK")))
    ∙ early))
early_kind message reply_to (start.Response status reason) is early = (
  status,
  reason,
  is,
  early_status (status == 100) (nat_lt status 200) (nat_lt status 300) status refl refl early,
)

due_late : (ending repeat : Bool)
    → is_early (unwrap_or (if ending then Some on.TimeoutDue else if repeat
    then Some on.RetransmitDue else None) on.Ack) ≡ false
due_late true repeat = refl
due_late false true = refl
due_late false false = refl

tick_late : (held : Option Life) (now : ℕ) → is_early (unwrap_or (tick_of now held) on.Ack) ≡ false
tick_late None now = refl
tick_late (Some life) now =
    due_late (is_due now life.context.timers.ending) (is_due now life.context.timers.repeat)

answer_late : (line : StartLine) → is_early (unwrap_or (answer_of line) on.Ack) ≡ false
answer_late (start.Request uri) = refl
answer_late (start.Response status reason) = refl

arrived_mild : (k : Key) (context : Context) (held : Option Life) (now : ℕ) (input : Option Input)
    (trigger : Trigger) → trigger_of held now input ≡ Some trigger → is_early trigger ≡ true
    → AllByRecursion IsMild
    (option_to_list (option_map (arrived_out k context) (arrived_in input)))
arrived_mild k context held now (Some (Receive id message reply_to)) trigger is early =
    let same : arrival_of message.start message.cseq.method ≡ trigger = cc in
    (early_kind message reply_to message.start refl (ap is_early same ∙ early), tt)
arrived_mild k context held now _ trigger is early = tt

handed_mild : (k : Key) (context : Context) (held : Option Life) (now : ℕ) (input : Option Input)
    (trigger : Trigger) (handed : UpAction) → trigger_of held now input ≡ Some trigger
    → is_mild trigger handed ≡ true
    → AllByRecursion IsMild (option_to_list (handed_out k context handed (arrived_in input)))
unfolding handed_out
handed_mild k context held now input trigger up.Nothing is mild = tt
handed_mild k context held now input trigger up.Message is mild =
    arrived_mild k context held now input trigger is mild
handed_mild k context held now input trigger up.Timeout is mild = absurd (false≢true mild)
handed_mild k context held now input trigger up.Failed is mild = absurd (false≢true mild)
handed_mild k context held now input trigger up.NoTransaction is mild = (tt, tt)

outputs_mild : (k : Key) (context : Context) (held : Option Life) (now : ℕ) (input : Option Input)
    (trigger : Trigger) (step : Step) (made : Option (List ℕ))
    → trigger_of held now input ≡ Some trigger → is_mild trigger step.handed ≡ true
    → AllByRecursion IsMild (outputs_of k context step made (arrived_in input))
outputs_mild k context held now input trigger step made is mild =
    outputs_each IsMild k context (λ bytes. tt) step made (arrived_in input)
    (handed_mild k context held now input trigger step.handed is mild)

-- ---- a life that is held

opened : (r : Role) (next : Option State) (life : Life) (rest : Bool) → next ≡ Some life.state
    → is_open r life.state ≡ true → (not (opens r next) || rest) ≡ true → rest ≡ true
opened r next life rest is still passed =
    sym (ap (λ b. not b || rest) (ap (opens r) is ∙ still)) ∙ passed

held_on : (k : Key) (before : Life) (now : ℕ) (input : Option Input) (step : Step)
    → RowFor k (Some before) (record { moment = now; input = input }) step
    → LivesOn k (Some before) input
    (acted_if k now input (Some before.state) (Some before.context) step)
held_on k before now input step row life is =
    let r = role_of k in
    let s = before.state in
    let made = made_bytes before.context.request step.sent (message_in input) in
    let after = after_row (Some s) before.context step now made life is in
    inl (record {
      before = before;
      was = refl;
      id = after.1;
      call = after.2;
      open_before = λ still.
          let mine : (is_open r s && (is_server r || is_mild row.trigger step.handed)) ≡ true =
          opened r (entered step.next (Some s)) life _ after.0 still
          (row_passes (opens_rightly r) (rows_of r) (rows_open r) (Some s) row.trigger step
          row.row) in (
            and-left (is_open r s) (is_server r || is_mild row.trigger step.handed) mine,
            λ client. outputs_mild k before.context (Some before) now input row.trigger step made
                row.triggered
                (sym (ap (λ b. b || is_mild row.trigger step.handed) client)
                ∙ and-right (is_open r s) (is_server r || is_mild row.trigger step.handed)
                mine),
          );
    })

-- ---- a life that begins

start_of_none : (message : Message) (trigger : Trigger)
    → arrival_of message.start message.cseq.method ≡ trigger → is_start trigger ≡ false
start_of_none message trigger is =
    sym (ap is_start is) ∙ by_line message.start
  where
    message_starts : (ack : Bool) → is_start (cond ack on.Ack on.Request) ≡ false
    message_starts true = refl
    message_starts false = refl

    by_line : (line : StartLine) → is_start (arrival_of line message.cseq.method) ≡ false
    by_line (start.Request uri) =
        message_starts (is_same_method message.cseq.method (codes "ACK"))
    by_line (start.Response status reason) = refl

request_kind : (message : Message) (reply_to : Addr) (line : StartLine)
    → is_request (arrival_of line message.cseq.method) ≡ true
    → kind_of line message reply_to ≡ kind.Request message reply_to
request_kind message reply_to (start.Request uri) is =
    by_bool (is_same_method message.cseq.method (codes "ACK"))
    (λ ack. absurd (false≢true (sym (ap (λ b. is_request (cond b on.Ack on.Request)) ack) ∙ is)))
    (λ other. ap (λ b. cond b (kind.Ack message) (kind.Request message reply_to)) other)
request_kind message reply_to (start.Response status reason) is = absurd (false≢true is)

message_up : (k : Key) (context : Context) (handed : UpAction) (message : Message)
    (reply_to : Addr) → is_message handed ≡ true
    → is_request (arrival_of message.start message.cseq.method) ≡ true
    → handed_out k context handed (Some (message, reply_to))
    ≡ Some (out.Up (record {
      key = k;
      id = context.id;
      call_id = context.call_id;
      kind = kind.Request message reply_to;
    }))
unfolding handed_out
message_up k context up.Message message reply_to is request =
    ap (λ (kind : UpKind). Some (out.Up (record {
      key = k;
      id = context.id;
      call_id = context.call_id;
      kind = kind;
    }))) (request_kind message reply_to message.start request)
message_up k context _ message reply_to is request = absurd (false≢true is)

abbrev up_of : Key → Id → List ℕ → Message → Addr → Out
up_of k id call_id message reply_to = out.Up (record {
  key = k;
  id = id;
  call_id = call_id;
  kind = kind.Request message reply_to;
})

first_up : (k : Key) (context : Context) (step : Step) (made : Option (List ℕ))
    (message : Message) (reply_to : Addr) → is_message step.handed ≡ true
    → is_request (arrival_of message.start message.cseq.method) ≡ true
    → Among (outputs_of k context step made (Some (message, reply_to)))
    (up_of k context.id context.call_id message reply_to)
unfolding outputs_of
first_up k context step made message reply_to is request =
    among_left (option_to_list (handed_out k context step.handed (Some (message, reply_to)))) _
    (up_of k context.id context.call_id message reply_to)
    (subst (λ o. Among (option_to_list o)
    (up_of k context.id context.call_id message reply_to))
    (sym (message_up k context step.handed message reply_to is request)) (inl refl))

first_row : (r : Role) (step : Step) (trigger : Trigger) (life : Life)
    → begins_rightly r None trigger step ≡ true → entered step.next None ≡ Some life.state
    → is_first (is_server r) trigger step.handed ≡ true
first_row r step trigger life passed is =
    sym (ap (λ o. is_none o || is_first (is_server r) trigger step.handed) is) ∙ passed

none_on : (k : Key) (now : ℕ) (input : Option Input) (step : Step)
    → RowFor k None (record { moment = now; input = input }) step
    → LivesOn k None input (acted_if k now input None (begun (role_of k) input) step)
unfolding begun
none_on k now (Some (Receive id message reply_to)) step row life is =
    let r = role_of k in
    let context = context_by id message.call_id reply_to None in
    let made = made_bytes context.request step.sent (Some message) in
    let after = after_row None context step now made life is in
    let came : arrival_of message.start message.cseq.method ≡ row.trigger =
    ap (λ o. unwrap_or o on.Ack) row.triggered in
    let first = first_row r step row.trigger life
    (row_passes (begins_rightly r) (rows_of r) (rows_begin r) None row.trigger step row.row)
    after.0 in
    inr (record {
      none = refl;
      started = λ client. absurd (false≢true
          (sym (start_of_none message row.trigger came)
          ∙ (sym (ap (λ b. is_first b row.trigger step.handed) client) ∙ first)));
      received = λ server.
          let passed : (is_request row.trigger && is_message step.handed) ≡ true =
          sym (ap (λ b. is_first b row.trigger step.handed) server) ∙ first in (
            message,
            reply_to,
            ap (λ id. Some (Receive id message reply_to)) after.1,
            subst (λ (named : Id × List ℕ). Among
                (outputs_of k context step made (Some (message, reply_to)))
                (up_of k named.0 named.1 message reply_to))
                (λ i. (after.1 i, after.2 i))
                (first_up k context step made message reply_to
                (and-right (is_request row.trigger) (is_message step.handed) passed)
                (ap is_request came
                ∙ and-left (is_request row.trigger) (is_message step.handed) passed)),
          );
    })
none_on k now (Some (Start id call_id message to)) step row life is =
    let r = role_of k in
    let context = context_by id call_id to (cond (keeps_request r) (Some message) None) in
    let made = made_bytes context.request step.sent (Some message) in
    let after = after_row None context step now made life is in
    let came : on.Start ≡ row.trigger = ap (λ o. unwrap_or o on.Ack) row.triggered in
    let first = first_row r step row.trigger life
    (row_passes (begins_rightly r) (rows_of r) (rows_begin r) None row.trigger step row.row)
    after.0 in
    inr (record {
      none = refl;
      started = λ client.
          (message, to, λ i. Some (Start (after.1 i) (after.2 i) message to));
      received = λ server. absurd (false≢true
          (ap is_request came
          ∙ and-left (is_request row.trigger) (is_message step.handed)
          (sym (ap (λ b. is_first b row.trigger step.handed) server) ∙ first)));
    })
none_on k now _ step row life is = absurd cc

row_on : (k : Key) (held : Option Life) (now : ℕ) (input : Option Input) (step : Step)
    → RowFor k held (record { moment = now; input = input }) step
    → LivesOn k held input (acted_if k now input (state_of held)
    (context_of (role_of k) held input) step)
row_on k None now input step row = none_on k now input step row
row_on k (Some before) now input step row = held_on k before now input step row

-- After an input a life was there before it, or it begins.
pub lives_on : (k : Key) (held : Option Life) (now : ℕ) (input : Option Input)
    → LivesOn k held input (step_at k held now input)
lives_on k held now input =
    subst (LivesOn k held input) (sym (step_is k held now input))
    (by_step (LivesOn k held input) k held (record { moment = now; input = input })
    (λ life is. absurd cc)
    (λ life is. inl (record {
      before = life;
      was = is;
      id = refl;
      call = refl;
      open_before = λ still. (still, λ client. tt);
    }))
    (row_on k held now input))

-- ---- what is handed up

-- a report or a response comes up from a life that is held
abbrev pub KindIsOf : UpKind → Type 0 → Type 0
KindIsOf (kind.Request request reply_to) Held = Unit {0}
KindIsOf (kind.Ack ack) Held = Unit {0}
KindIsOf (kind.Response response) Held = Held
KindIsOf kind.Timeout Held = Held
KindIsOf kind.Failed Held = Held

-- under its id
abbrev pub UpIsOf : Key → Option Life → Out → Type 0
UpIsOf k held (out.Up up) = (up.key ≡ k) × KindIsOf up.kind
    ((life : Life) × (held ≡ Some life) × (up.id ≡ life.context.id))
UpIsOf k held (out.Send key to bytes) = Unit {0}
UpIsOf k held (out.Dropped place why) = Unit {0}

any_kind : (kind : UpKind) (Held : Type 0) → Held → KindIsOf kind Held
any_kind (kind.Request request reply_to) Held it = tt
any_kind (kind.Ack ack) Held it = tt
any_kind _ Held it = it

-- without a life at most a request or an ACK comes up
abbrev is_message_in : Trigger → Bool
is_message_in on.Request = true
is_message_in on.Ack = true
is_message_in trigger = false

abbrev is_little : UpAction → Trigger → Bool
is_little up.Nothing trigger = true
is_little up.Message trigger = is_message_in trigger
is_little up.Timeout trigger = false
is_little up.Failed trigger = false
is_little up.NoTransaction trigger = true

abbrev hands_little : Option State → Trigger → Step → Bool
hands_little state trigger step = is_some state || is_little step.handed trigger

rows_little : (r : Role) → table_passes hands_little (rows_of r) ≡ true
rows_little role.InviteClient = refl
rows_little _ = refl

little_kind : (k : Key) (message : Message) (reply_to : Addr) (line : StartLine)
    (Held : Type 0) → is_message_in (arrival_of line message.cseq.method) ≡ true
    → KindIsOf (kind_of line message reply_to) Held
little_kind k message reply_to (start.Request uri) Held little =
    by_ack (is_same_method message.cseq.method (codes "ACK"))
  where
    by_ack : (b : Bool)
        → KindIsOf (if b then kind.Ack message else kind.Request message reply_to) Held
    by_ack true = tt
    by_ack false = tt
little_kind k message reply_to (start.Response status reason) Held little =
    absurd (false≢true little)

none_handed : (k : Key) (context : Context) (message : Message) (reply_to : Addr)
    (handed : UpAction)
    → is_little handed (arrival_of message.start message.cseq.method) ≡ true
    → AllByRecursion (UpIsOf k None)
    (option_to_list (handed_out k context handed (Some (message, reply_to))))
unfolding handed_out
none_handed k context message reply_to up.Nothing little = tt
none_handed k context message reply_to up.Message little =
    ((refl, little_kind k message reply_to message.start _ little), tt)
none_handed k context message reply_to up.Timeout little = absurd (false≢true little)
none_handed k context message reply_to up.Failed little = absurd (false≢true little)
none_handed k context message reply_to up.NoTransaction little = (tt, tt)

order_handed : (k : Key) (context : Context) (handed : UpAction)
    → is_little handed on.Start ≡ true
    → AllByRecursion (UpIsOf k None) (option_to_list (handed_out k context handed None))
unfolding handed_out
order_handed k context up.Nothing little = tt
order_handed k context up.Message little = tt
order_handed k context up.Timeout little = absurd (false≢true little)
order_handed k context up.Failed little = absurd (false≢true little)
order_handed k context up.NoTransaction little = (tt, tt)

none_ups : (k : Key) (now : ℕ) (input : Option Input) (step : Step)
    → RowFor k None (record { moment = now; input = input }) step
    → AllByRecursion (UpIsOf k None) (acted_if k now input None (begun (role_of k) input) step).1
unfolding begun
none_ups k now (Some (Receive id message reply_to)) step row =
    let r = role_of k in
    let context = context_by id message.call_id reply_to None in
    let came : arrival_of message.start message.cseq.method ≡ row.trigger =
    ap (λ o. unwrap_or o on.Ack) row.triggered in
    outputs_each (UpIsOf k None) k context (λ bytes. tt) step _ (Some (message, reply_to))
    (none_handed k context message reply_to step.handed (ap (is_little step.handed) came
    ∙ row_passes hands_little (rows_of r) (rows_little r) None row.trigger step row.row))
none_ups k now (Some (Start id call_id message to)) step row =
    let r = role_of k in
    let context = context_by id call_id to (cond (keeps_request r) (Some message) None) in
    let came : on.Start ≡ row.trigger = ap (λ o. unwrap_or o on.Ack) row.triggered in
    outputs_each (UpIsOf k None) k context (λ bytes. tt) step _ None
    (order_handed k context step.handed (ap (is_little step.handed) came
    ∙ row_passes hands_little (rows_of r) (rows_little r) None row.trigger step row.row))
none_ups k now _ step row = tt

row_ups : (k : Key) (held : Option Life) (now : ℕ) (input : Option Input) (step : Step)
    → RowFor k held (record { moment = now; input = input }) step
    → AllByRecursion (UpIsOf k held) (acted_if k now input (state_of held)
    (context_of (role_of k) held input) step).1
row_ups k None now input step row = none_ups k now input step row
row_ups k (Some life) now input step row =
    ups_each (UpIsOf k (Some life)) k life.context (λ bytes. tt)
    (λ its. (refl, any_kind its _ (life, refl, refl))) (λ place why. tt) step _ (arrived_in input)

pub ups_of : (k : Key) (held : Option Life) (now : ℕ) (input : Option Input)
    → AllByRecursion (UpIsOf k held) (step_at k held now input).1
ups_of k held now input =
    subst (λ (after : Option Life × List Out). AllByRecursion (UpIsOf k held) after.1)
    (sym (step_is k held now input))
    (by_step (λ after. AllByRecursion (UpIsOf k held) after.1) k held
    (record { moment = now; input = input }) tt tt (row_ups k held now input))
