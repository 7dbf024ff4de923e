-- What comes up from a client transaction comes up under the id and the Call-ID under which the
-- transaction was started.
use Rattle.std.proofs.Common.{◌≡◌, ℕ, Bool, true, false, cond, ◌&&◌, ◌||◌, List, [], ◌∷◌, refl, sym, ap, ◌∙◌, codes, subst}
use Rattle.std.specs.Prelude.{Contains, IfSome, Option, None, Some, not, is_none, option_map, option_to_list, unwrap_or}
use Rattle.std.specs.List.{AllByRecursion}
use Rattle.std.proofs.lemmas.Bool.{false≢true}
use Rattle.sip_message.specs.declared.addr.Addr.{Addr}
use Rattle.sip_message.specs.declared.id.Id.{Id}
use Rattle.sip_message.specs.declared.key.Key.{Key}
use Rattle.sip_message.specs.declared.key.Key.TheVariants as key
use Rattle.sip_message.specs.declared.message.Message.{Message}
use Rattle.sip_message.specs.declared.start_line.StartLine.{StartLine}
use Rattle.sip_message.specs.declared.start_line.StartLine.TheVariants as start
use Rattle.keyed_machine.specs.Machine.{Timed, given_at, outputs_from}
use Rattle.keyed_machine.proofs.Ordered.{by_bool}
use Rattle.sip_transactions.specs.declared.input.Input.{Input}
use Rattle.sip_transactions.specs.declared.input.Input.TheVariants.{Abandon, Answer, Failed, Receive, Start}
use Rattle.sip_transactions.specs.declared.life.Context.{Context}
use Rattle.sip_transactions.specs.declared.life.Life.{Life}
use Rattle.sip_transactions.specs.declared.output.Out.{Out}
use Rattle.sip_transactions.specs.declared.output.Out.TheVariants as out
use Rattle.sip_transactions.specs.declared.state.Role.TheVariants as role
use Rattle.sip_transactions.specs.declared.state.State.{State}
use Rattle.sip_transactions.specs.declared.step.Due.{Due}
use Rattle.sip_transactions.specs.declared.step.UpAction.{UpAction}
use Rattle.sip_transactions.specs.declared.step.UpAction.TheVariants as up
use Rattle.sip_transactions.specs.declared.step.Next.{Next}
use Rattle.sip_transactions.specs.declared.step.Next.TheVariants.{Same, Ended, Become}
use Rattle.sip_transactions.specs.declared.step.Step.{Step}
use Rattle.sip_transactions.specs.declared.trigger.Trigger.{Trigger}
use Rattle.sip_transactions.specs.declared.trigger.Trigger.TheVariants as on
use Rattle.sip_transactions.specs.Steps.Input.{arrival_of, arrived_in, is_same_method, message_in, role_of}
use Rattle.sip_transactions.specs.Steps.Life.{acted_if, armed, begun, context_by, entered, keeps_request, last_of, life_after, life_in, state_of, stepped}
use Rattle.sip_transactions.specs.Machine.{transaction_machine}
use Rattle.sip_transactions.specs.Rules.Step.{step_at}
use Rattle.sip_transactions.proofs.Rules.{step_is}
use Rattle.sip_transactions.specs.Steps.Output.{handed_out, made_bytes, outputs_of, send_out, sent_bytes}
use Rattle.sip_transactions.specs.Rows.{rows_of}
use Rattle.sip_transactions.proofs.LawSteps.{by_step, is_ended}
use Rattle.sip_transactions.proofs.RowFacts.{and-left, and-right, row_passes, table_passes}
use Rattle.sip_held_dialogs.proofs.Each.{both}
use Rattle.sip_conversation.proofs.Among.{all_of}

-- ---- the rows: if nothing is held, only a start begins a life; any other row hands nothing up

abbrev is_start : Trigger → Bool
is_start on.Start = true
is_start on.RetransmitDue = false
is_start on.TimeoutDue = false
is_start on.Failed = false
is_start on.Request = false
is_start on.Ack = false
is_start (on.Response c) = false
is_start (on.Answer c) = false

abbrev hands_nothing : UpAction → Bool
hands_nothing up.Nothing = true
hands_nothing up.Message = false
hands_nothing up.Timeout = false
hands_nothing up.Failed = false
hands_nothing up.NoTransaction = true

abbrev begins_by_start : Option State → Trigger → Step → Bool
begins_by_start state trigger step = not (is_none state)
    || (is_start trigger || (is_ended step.next && hands_nothing step.handed))

tables_begin : (branch method : List ℕ)
    → table_passes begins_by_start (rows_of (role_of (key.Client branch method))) ≡ true
tables_begin branch method =
    by_bool (is_same_method method (codes "INVITE"))
    (λ hit. ap (λ b. table_passes begins_by_start
    (rows_of (cond b role.InviteClient role.Client))) hit)
    (λ miss. ap (λ b. table_passes begins_by_start
    (rows_of (cond b role.InviteClient role.Client))) miss)

message_starts : (ack : Bool) → is_start (cond ack on.Ack on.Request) ≡ false
message_starts true = refl
message_starts false = refl

no_arrival : (line : StartLine) (method : List ℕ) → is_start (arrival_of line method) ≡ false
no_arrival (start.Request uri) method = message_starts (is_same_method method (codes "ACK"))
no_arrival (start.Response status reason) method = refl

module _ (branch method : List ℕ) (all : List (Timed Input)) where
  abbrev client : Key
  client = key.Client branch method

  -- it was started under this id and this Call-ID
  abbrev pub WasStarted : Id → List ℕ → Type 0
  WasStarted id call_id = (now : ℕ) × (message : Message) × (to : Addr)
      × Contains all (given_at now (Start id call_id message to))

  abbrev pub UpIsStarted : Out → Type 0
  UpIsStarted (out.Up up) = WasStarted up.id up.call_id
  UpIsStarted (out.Send key to bytes) = Unit {0}
  UpIsStarted (out.Dropped place why) = Unit {0}

  abbrev LifeIsStarted : Option Life → Type 0
  LifeIsStarted held = IfSome held (λ life. WasStarted life.context.id life.context.call_id)

  abbrev After : Option Life × List Out → Type 0
  After after = LifeIsStarted after.0 × AllByRecursion UpIsStarted after.1

  -- ---- a row

  handed_started : (context : Context) (handed : UpAction) (arrived : Option (Message × Addr))
      → WasStarted context.id context.call_id
      → AllByRecursion UpIsStarted (option_to_list (handed_out client context handed arrived))
  unfolding handed_out
  handed_started context up.Nothing arrived started = tt
  handed_started context up.Message None started = tt
  handed_started context up.Message (Some arrived) started = (started, tt)
  handed_started context up.Timeout arrived started = (started, tt)
  handed_started context up.Failed arrived started = (started, tt)
  handed_started context up.NoTransaction arrived started = (tt, tt)

  sends_started : (to : Addr) (bytes : Option (List ℕ))
      → AllByRecursion UpIsStarted (option_to_list (option_map (send_out client to) bytes))
  sends_started to None = tt
  sends_started to (Some bytes) = (tt, tt)

  last_started : (context : Context) (made : Option (List ℕ))
      → WasStarted context.id context.call_id
      → WasStarted (last_of made context).id (last_of made context).call_id
  last_started context None started = started
  last_started context (Some bytes) started = started

  after_started : (context : Context) (step : Step) (now : ℕ) (next : Option State)
      → WasStarted context.id context.call_id
      → LifeIsStarted (option_map (life_in (armed step.due now context)) next)
  after_started context step now None started = tt
  after_started context step now (Some state) started = started

  acted_started : (now : ℕ) (input : Option Input) (state : Option State) (context : Context)
      (step : Step) → WasStarted context.id context.call_id
      → After (acted_if client now input state (Some context) step)
  unfolding life_after outputs_of
  acted_started now input state context step started =
      let made = made_bytes context.request step.sent (message_in input) in (
        after_started (last_of made context) step now (entered step.next state)
            (last_started context made started),
        both UpIsStarted
            (option_to_list (handed_out client context step.handed (arrived_in input)))
            (option_to_list (option_map (send_out client context.to)
            (sent_bytes context.last step.sent made)))
            (handed_started context step.handed (arrived_in input) started)
            (sends_started context.to (sent_bytes context.last step.sent made)),
      )

  -- a row that begins no life
  no_life : (next : Next) (made : Context) (due : Due) (now : ℕ) → is_ended next ≡ true
      → LifeIsStarted (option_map (life_in (armed due now made)) (entered next None))
  no_life Same made due now ended = tt
  no_life Ended made due now ended = tt
  no_life (Become state) made due now ended = absurd (false≢true ended)

  none_handed : (context : Context) (handed : UpAction) (arrived : Option (Message × Addr))
      → hands_nothing handed ≡ true
      → AllByRecursion UpIsStarted (option_to_list (handed_out client context handed arrived))
  unfolding handed_out
  none_handed context up.Nothing arrived none = tt
  none_handed context up.Message arrived none = absurd (false≢true none)
  none_handed context up.Timeout arrived none = absurd (false≢true none)
  none_handed context up.Failed arrived none = absurd (false≢true none)
  none_handed context up.NoTransaction arrived none = (tt, tt)

  acted_for_none : (now : ℕ) (input : Option Input) (context : Context) (step : Step)
      → is_ended step.next ≡ true → hands_nothing step.handed ≡ true
      → After (acted_if client now input None (Some context) step)
  unfolding life_after outputs_of
  acted_for_none now input context step ended none =
      let made = made_bytes context.request step.sent (message_in input) in (
        no_life step.next (last_of made context) step.due now ended,
        both UpIsStarted
            (option_to_list (handed_out client context step.handed (arrived_in input)))
            (option_to_list (option_map (send_out client context.to)
            (sent_bytes context.last step.sent made)))
            (none_handed context step.handed (arrived_in input) none)
            (sends_started context.to (sent_bytes context.last step.sent made)),
      )

  -- ---- one input

  first_input : (now : ℕ) (input : Option Input)
      → Contains all (record { moment = now; input = input })
      → After (stepped client None (record { moment = now; input = input }))
  unfolding begun
  first_input now None among =
      by_step After client None (record { moment = now; input = None }) (tt, tt) (tt, tt)
      (λ step row. (tt, tt))
  first_input now (Some (Receive id message to)) among =
      by_step After client None (given_at now (Receive id message to)) (tt, tt) (tt, tt)
      (λ step row.
      let other : is_start row.trigger ≡ false =
      ap (λ o. is_start (unwrap_or o on.Ack)) (sym row.triggered)
      ∙ no_arrival message.start message.cseq.method in
      let test : (is_start row.trigger || (is_ended step.next && hands_nothing step.handed))
      ≡ true =
      row_passes begins_by_start (rows_of (role_of client)) (tables_begin branch method) None
      row.trigger step row.row in
      let ended : (is_ended step.next && hands_nothing step.handed) ≡ true =
      sym (ap (λ b. b || (is_ended step.next && hands_nothing step.handed)) other) ∙ test in
      acted_for_none now (Some (Receive id message to)) (context_by id message.call_id to None) step
      (and-left (is_ended step.next) (hands_nothing step.handed) ended)
      (and-right (is_ended step.next) (hands_nothing step.handed) ended))
  first_input now (Some (Start id call_id message to)) among =
      by_step After client None (given_at now (Start id call_id message to)) (tt, tt) (tt, tt)
      (λ step row. acted_started now (Some (Start id call_id message to)) None
      (context_by id call_id to (cond (keeps_request (role_of client)) (Some message) None)) step
      (now, message, to, among))
  first_input now (Some (Answer id message)) among =
      by_step After client None (given_at now (Answer id message)) (tt, tt) (tt, tt)
      (λ step row. (tt, tt))
  first_input now (Some (Failed id)) among =
      by_step After client None (given_at now (Failed id)) (tt, tt) (tt, tt)
      (λ step row. (tt, tt))
  first_input now (Some Abandon) among =
      by_step After client None (given_at now Abandon) (tt, tt) (tt, tt)
      (λ step row. (tt, tt))

  one_input : (held : Option Life) (now : ℕ) (input : Option Input)
      → Contains all (record { moment = now; input = input }) → LifeIsStarted held
      → After (stepped client held (record { moment = now; input = input }))
  one_input None now input among started = first_input now input among
  one_input (Some life) now input among started =
      by_step After client (Some life) (record { moment = now; input = input }) (tt, tt)
      (started, tt)
      (λ step row. acted_started now input (state_of (Some life)) life.context step started)

  -- ---- all inputs

  started_from : (held : Option Life) (inputs : List (Timed Input))
      → AllByRecursion (Contains all) inputs → LifeIsStarted held
      → AllByRecursion UpIsStarted (outputs_from transaction_machine client held inputs)
  started_from held [] among started = tt
  started_from held (timed ∷ inputs) among started =
      let step = step_at client held timed.moment timed.input in
      let after = subst After (sym (step_is client held timed.moment timed.input))
      (one_input held timed.moment timed.input among.0 started) in
      both UpIsStarted step.1
      (outputs_from transaction_machine client step.0 inputs) after.1
      (started_from step.0 inputs among.1 after.0)

  pub ups_started : AllByRecursion UpIsStarted
      (outputs_from transaction_machine client None all)
  ups_started = started_from None all (all_of (Contains all) all (λ timed among. among)) tt
