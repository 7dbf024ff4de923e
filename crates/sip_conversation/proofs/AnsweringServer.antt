-- The server of a request other than INVITE: it waits for its final response, and then sends that
-- again at each retransmission, for 64*T1 (RFC 3261, section 17.2.2).
use Rattle.std.proofs.Common.{◌≡◌, ◌⊎◌, inl, inr, ⊎_elim, ℕ, ◌+◌, ◌<◌, ◌≤◌, Bool, true, false, cond, ◌&&◌, ◌||◌, List, [], ◌∷◌, ◌++◌, refl, sym, ◌∙◌, ap, subst, arith, codes}
use Rattle.std.specs.Prelude.{Option, None, Some, count_by, nat_le, not}
use Rattle.std.specs.List.{AllByRecursion, list_any}
use Rattle.std.proofs.lemmas.Bool.{false≢true, leb-true}
use Rattle.std.proofs.lemmas.List.Sums.{sum_by-append, sum_by-cons}
use Rattle.sip_message.specs.declared.addr.Addr.{Addr}
use Rattle.sip_message.specs.declared.id.Id.{Id}
use Rattle.sip_message.specs.declared.key.Key.{Key}
use Rattle.sip_message.specs.declared.message.Message.{Message}
use Rattle.sip_message.specs.declared.start_line.StartLine.{StartLine}
use Rattle.sip_message.specs.declared.start_line.StartLine.TheVariants as start
use Rattle.sip_message.specs.Message.{is_request_line, is_request_message}
use Rattle.sip_message.specs.Written.{written}
use Rattle.keyed_machine.specs.Machine.{Timed, given_at, outputs_from, state_from}
use Rattle.keyed_machine.proofs.Ordered.{by_bool}
use Rattle.sip_transactions.specs.declared.input.Input.{Input}
use Rattle.sip_transactions.specs.declared.input.Input.TheVariants.{Receive, Start, Answer, Failed, Abandon}
use Rattle.sip_transactions.specs.declared.life.Context.{Context}
use Rattle.sip_transactions.specs.declared.life.Life.{Life}
use Rattle.sip_transactions.specs.declared.output.Out.{Out}
use Rattle.sip_transactions.specs.declared.output.Out.TheVariants as out
use Rattle.sip_transactions.specs.declared.state.Role.TheVariants as role
use Rattle.sip_transactions.specs.declared.state.State.{State}
use Rattle.sip_transactions.specs.declared.state.State.TheVariants.{Calling, Trying, Proceeding, Completed, Accepted, Confirmed}
use Rattle.sip_transactions.specs.declared.step.Due.{Due}
use Rattle.sip_transactions.specs.declared.step.Due.TheVariants.{Clear, Keep}
use Rattle.sip_transactions.specs.declared.step.Sent.TheVariants as send
use Rattle.sip_transactions.specs.declared.trigger.Class.{Class}
use Rattle.sip_transactions.specs.declared.trigger.Class.TheVariants as class
use Rattle.sip_transactions.specs.declared.trigger.Trigger.{Trigger}
use Rattle.sip_transactions.specs.declared.trigger.Trigger.TheVariants as on
use Rattle.sip_transactions.specs.ServerLaws.{is_final_answer, is_open}
use Rattle.sip_transactions.specs.Steps.Input.{answer_of, arrival_of, class_of, is_abandon, is_same_method, message_in, role_of, tick_of, trigger_of}
use Rattle.sip_transactions.specs.Steps.Life.{armed, begun, context_by, last_of, life_after, life_in, step_machine, stepped}
use Rattle.sip_transactions.specs.Steps.Output.{handed_out, made_bytes, made_of, outputs_of}
use Rattle.sip_conversation.specs.AnswersArrive.{is_final_given, is_receipt}
use Rattle.sip_agent_laws.specs.Transactions.Copies.{copies, is_copy}
use Rattle.sip_agent_laws.proofs.transactions.Often.{one_copy, or_false}
use Rattle.sip_agent_laws.proofs.transactions.OftenSent.{by_role, to_role}

abbrev pub server_by : Key → Option Life → ℕ → Option Input → Option Trigger → Option Life × List Out
server_by key held now input trigger = by_role role.Server key held now input trigger

pub to_server : (key : Key) → role_of key ≡ role.Server → (held : Option Life) (now : ℕ)
    (input : Option Input) → is_abandon input ≡ false
    → stepped key held (record { moment = now; input = input })
    ≡ server_by key held now input (trigger_of held now input)
to_server key own held now input kept = to_role key role.Server own held now input kept

-- ---- an open server

-- a life without a final response, whose responses go to this address
pub record IsOpenTo (to : Addr) (held : Option Life) : Type 0 where
  pub life : Life
  pub is : held ≡ Some life
  pub opened : is_open life.state ≡ true
  pub to_is : life.context.to ≡ to

last_to : (made : Option (List ℕ)) (context : Context) → (last_of made context).to ≡ context.to
last_to None context = refl
last_to (Some bytes) context = refl

module _ (key : Key) (to : Addr) (context : Context) (to_is : context.to ≡ to) (now : ℕ)
    (input : Option Input) where
  abbrev Stays : State → Option Trigger → Type 0
  Stays state trigger =
      IsOpenTo to (server_by key (Some (life_in context state)) now input trigger).0

  same : (state : State) → is_open state ≡ true → IsOpenTo to (Some (life_in context state))
  same state opened = record { life = life_in context state; is = refl; opened = opened; to_is = to_is }

  abbrev moved_to : Due → Option (List ℕ) → Life
  moved_to due made = life_in (armed due now (last_of made context)) Proceeding

  moved : (due : Due) (made : Option (List ℕ)) → IsOpenTo to (Some (moved_to due made))
  moved due made = record {
    life = moved_to due made;
    is = refl;
    opened = refl;
    to_is = last_to made context ∙ to_is;
  }

  trying_stays : (trigger : Option Trigger) → is_final_answer trigger ≡ false
      → Stays Trying trigger
  unfolding life_after
  trying_stays None opened = same Trying refl
  trying_stays (Some on.Start) opened = same Trying refl
  trying_stays (Some on.RetransmitDue) opened = same Trying refl
  trying_stays (Some on.TimeoutDue) opened = same Trying refl
  trying_stays (Some on.Failed) opened =
      let made = made_bytes context.request send.Nothing (message_in input) in record {
        life = life_in (armed Keep now (last_of made context)) Trying;
        is = refl;
        opened = refl;
        to_is = last_to made context ∙ to_is;
      }
  trying_stays (Some on.Request) opened = same Trying refl
  trying_stays (Some on.Ack) opened = same Trying refl
  trying_stays (Some (on.Response class.Trying)) opened = same Trying refl
  trying_stays (Some (on.Response class.Provisional)) opened = same Trying refl
  trying_stays (Some (on.Response class.Success)) opened = same Trying refl
  trying_stays (Some (on.Response class.Failure)) opened = same Trying refl
  trying_stays (Some (on.Answer class.Trying)) opened = same Trying refl
  trying_stays (Some (on.Answer class.Provisional)) opened =
      moved Clear (made_bytes context.request send.Given (message_in input))
  trying_stays (Some (on.Answer class.Success)) opened = absurd (false≢true (sym opened))
  trying_stays (Some (on.Answer class.Failure)) opened = absurd (false≢true (sym opened))

  proceeding_stays : (trigger : Option Trigger) → is_final_answer trigger ≡ false
      → Stays Proceeding trigger
  unfolding life_after
  proceeding_stays None opened = same Proceeding refl
  proceeding_stays (Some on.Start) opened = same Proceeding refl
  proceeding_stays (Some on.RetransmitDue) opened = same Proceeding refl
  proceeding_stays (Some on.TimeoutDue) opened = same Proceeding refl
  proceeding_stays (Some on.Failed) opened =
      moved Keep (made_bytes context.request send.Nothing (message_in input))
  proceeding_stays (Some on.Request) opened =
      moved Keep (made_bytes context.request send.Latest (message_in input))
  proceeding_stays (Some on.Ack) opened = same Proceeding refl
  proceeding_stays (Some (on.Response class.Trying)) opened = same Proceeding refl
  proceeding_stays (Some (on.Response class.Provisional)) opened = same Proceeding refl
  proceeding_stays (Some (on.Response class.Success)) opened = same Proceeding refl
  proceeding_stays (Some (on.Response class.Failure)) opened = same Proceeding refl
  proceeding_stays (Some (on.Answer class.Trying)) opened = same Proceeding refl
  proceeding_stays (Some (on.Answer class.Provisional)) opened =
      moved Clear (made_bytes context.request send.Given (message_in input))
  proceeding_stays (Some (on.Answer class.Success)) opened = absurd (false≢true (sym opened))
  proceeding_stays (Some (on.Answer class.Failure)) opened = absurd (false≢true (sym opened))

  state_stays : (state : State) → is_open state ≡ true → (trigger : Option Trigger)
      → is_final_answer trigger ≡ false → Stays state trigger
  state_stays Calling opened trigger calm = absurd (false≢true opened)
  state_stays Trying opened trigger calm = trying_stays trigger calm
  state_stays Proceeding opened trigger calm = proceeding_stays trigger calm
  state_stays Completed opened trigger calm = absurd (false≢true opened)
  state_stays Accepted opened trigger calm = absurd (false≢true opened)
  state_stays Confirmed opened trigger calm = absurd (false≢true opened)

-- ---- inputs without a final response

-- it isn't given up, and no final response is given; what is answered goes to this address
abbrev pub IsPlain : Addr → Option Input → Type 0
IsPlain to None = Unit {0}
IsPlain to (Some (Receive id message reply_to)) = is_receipt (Some (Receive id message reply_to)) ≡ true
    → reply_to ≡ to
IsPlain to (Some (Start id call_id message at)) = Unit {0}
IsPlain to (Some (Answer id message)) = Unit {0}
IsPlain to (Some (Failed id)) = Unit {0}
IsPlain to (Some Abandon) = ⊥

abbrev pub ArePlain : Addr → List (Timed Input) → Type 0
ArePlain to inputs = AllByRecursion (λ timed. IsPlain to timed.input) inputs

abbrev pub gives_final : Timed Input → Bool
gives_final timed = is_final_given timed.input

abbrev pub comes : Timed Input → Bool
comes timed = is_receipt timed.input

pub kept_so : (to : Addr) (input : Option Input) → IsPlain to input → is_abandon input ≡ false
kept_so to None plain = refl
kept_so to (Some (Receive id message reply_to)) plain = refl
kept_so to (Some (Start id call_id message at)) plain = refl
kept_so to (Some (Answer id message)) plain = refl
kept_so to (Some (Failed id)) plain = refl
kept_so to (Some Abandon) plain = absurd plain

arrives_calm : (line : StartLine) (method : List ℕ)
    → is_final_answer (Some (arrival_of line method)) ≡ false
arrives_calm (start.Request uri) method = by_ack (is_same_method method (codes "ACK"))
  where
    by_ack : (ack : Bool) → is_final_answer (Some (cond ack on.Ack on.Request)) ≡ false
    by_ack true = refl
    by_ack false = refl
arrives_calm (start.Response status reason) method = refl

tick_calm : (held : Option Life) (now : ℕ) → is_final_answer (tick_of now held) ≡ false
tick_calm None now = refl
tick_calm (Some life) now = by_due _ _
  where
    by_due : (over again : Bool) → is_final_answer (cond over (Some on.TimeoutDue)
        (cond again (Some on.RetransmitDue) None)) ≡ false
    by_due true again = refl
    by_due false true = refl
    by_due false false = refl

calm_so : (held : Option Life) (now : ℕ) (input : Option Input) → is_final_given input ≡ false
    → is_final_answer (trigger_of held now input) ≡ false
calm_so held now None calm = tick_calm held now
calm_so held now (Some (Receive id message reply_to)) calm =
    arrives_calm message.start message.cseq.method
calm_so held now (Some (Start id call_id message at)) calm = refl
calm_so held now (Some (Answer id message)) calm = calm
calm_so held now (Some (Failed id)) calm = refl
calm_so held now (Some Abandon) calm = refl

-- a request that comes, as a trigger
pub receipt_trigger : (message : Message) → (is_request_message message
    && not (is_same_method message.cseq.method (codes "ACK"))) ≡ true
    → arrival_of message.start message.cseq.method ≡ on.Request
receipt_trigger message is = by_line message.start is
  where
    by_line : (line : StartLine) → (is_request_line line
        && not (is_same_method message.cseq.method (codes "ACK"))) ≡ true
        → arrival_of line message.cseq.method ≡ on.Request
    by_line (start.Request uri) is = by_ack (is_same_method message.cseq.method (codes "ACK")) is
      where
        by_ack : (ack : Bool) → not ack ≡ true → cond ack on.Ack on.Request ≡ on.Request
        by_ack true is = absurd (false≢true is)
        by_ack false is = refl
    by_line (start.Response status reason) is = absurd (false≢true is)

-- what isn't one begins nothing
pub no_receipt : (message : Message) → (is_request_message message
    && not (is_same_method message.cseq.method (codes "ACK"))) ≡ false
    → (arrival_of message.start message.cseq.method ≡ on.Ack)
    ⊎ ((c : Class) × (arrival_of message.start message.cseq.method ≡ on.Response c))
no_receipt message is = by_line message.start is
  where
    by_line : (line : StartLine) → (is_request_line line
        && not (is_same_method message.cseq.method (codes "ACK"))) ≡ false
        → (arrival_of line message.cseq.method ≡ on.Ack)
        ⊎ ((c : Class) × (arrival_of line message.cseq.method ≡ on.Response c))
    by_line (start.Request uri) is =
        inl (by_ack (is_same_method message.cseq.method (codes "ACK")) is)
      where
        by_ack : (ack : Bool) → not ack ≡ false → cond ack on.Ack on.Request ≡ on.Ack
        by_ack true is = refl
        by_ack false is = absurd (false≢true (sym is))
    by_line (start.Response status reason) is = inr (class_of status, refl)

module _ (key : Key) (own : role_of key ≡ role.Server) (to : Addr) where
  abbrev Open : Option Life → Type 0
  Open = IsOpenTo to

  open_step : (held : Option Life) (timed : Timed Input) → Open held
      → IsPlain to timed.input → gives_final timed ≡ false → Open (stepped key held timed).0
  open_step held timed goes plain calm =
      subst (λ h. Open (stepped key h timed).0) (sym goes.is)
      (subst (λ (a : Option Life × List Out). Open a.0)
      (sym (to_server key own (Some goes.life) timed.moment timed.input
      (kept_so to timed.input plain)))
      (state_stays key to goes.life.context goes.to_is timed.moment timed.input goes.life.state
      goes.opened (trigger_of (Some goes.life) timed.moment timed.input)
      (calm_so (Some goes.life) timed.moment timed.input calm)))

  pub open_then : (inputs : List (Timed Input)) (held : Option Life) → Open held
      → ArePlain to inputs → list_any gives_final inputs ≡ false
      → Open (state_from step_machine key held inputs)
  open_then [] held goes plain calm = goes
  open_then (timed ∷ inputs) held goes plain calm =
      let parts = or_false (gives_final timed) (list_any gives_final inputs) calm in
      open_then inputs (stepped key held timed).0 (open_step held timed goes plain.0 parts.0)
      plain.1 parts.1

  -- ---- the first request

  fresh_request : (now : ℕ) (id : Id) (message : Message) (reply_to : Addr) → reply_to ≡ to
      → Open (server_by key None now (Some (Receive id message reply_to)) (Some on.Request)).0
  unfolding begun life_after made_of
  fresh_request now id message reply_to same = record {
    life = life_in (armed Clear now (context_by id message.call_id reply_to None)) Trying;
    is = refl;
    opened = refl;
    to_is = same;
  }

  fresh_response : (now : ℕ) (input : Option Input) (c : Class)
      → (server_by key None now input (Some (on.Response c))).0 ≡ None
  fresh_response now input class.Trying = refl
  fresh_response now input class.Provisional = refl
  fresh_response now input class.Success = refl
  fresh_response now input class.Failure = refl

  fresh_answer : (now : ℕ) (input : Option Input) (line : StartLine)
      → (server_by key None now input (answer_of line)).0 ≡ None
  fresh_answer now input (start.Request uri) = refl
  fresh_answer now input (start.Response status reason) = by_class (class_of status)
    where
      by_class : (c : Class) → (server_by key None now input (Some (on.Answer c))).0 ≡ None
      by_class class.Trying = refl
      by_class class.Provisional = refl
      by_class class.Success = refl
      by_class class.Failure = refl

  abbrev pub Fresh : ℕ → Option Input → Type 0
  Fresh now input =
      (server_by key None now input (trigger_of None now input)).0 ≡ None

  pub fresh_other : (now : ℕ) (input : Option Input) → IsPlain to input → is_receipt input ≡ false
      → Fresh now input
  fresh_other now None plain other = refl
  fresh_other now (Some (Receive id message reply_to)) plain other =
      let input : Option Input = Some (Receive id message reply_to) in
      ⊎_elim
      (λ ack. subst (λ t. (server_by key None now input (Some t)).0 ≡ None) (sym ack) refl)
      (λ response. subst (λ t. (server_by key None now input (Some t)).0 ≡ None) (sym response.1)
      (fresh_response now input response.0))
      (no_receipt message other)
  fresh_other now (Some (Start id call_id message at)) plain other = refl
  fresh_other now (Some (Answer id message)) plain other =
      fresh_answer now (Some (Answer id message)) message.start
  fresh_other now (Some (Failed id)) plain other = refl
  fresh_other now (Some Abandon) plain other = absurd plain

  fresh_receipt : (now : ℕ) (input : Option Input) → IsPlain to input → is_receipt input ≡ true
      → Open (server_by key None now input (trigger_of None now input)).0
  fresh_receipt now (Some (Receive id message reply_to)) plain is =
      subst (λ t. Open (server_by key None now (Some (Receive id message reply_to)) (Some t)).0)
      (sym (receipt_trigger message is))
      (fresh_request now id message reply_to (plain is))
  fresh_receipt now None plain is = absurd (false≢true is)
  fresh_receipt now (Some (Start id call_id message at)) plain is = absurd (false≢true is)
  fresh_receipt now (Some (Answer id message)) plain is = absurd (false≢true is)
  fresh_receipt now (Some (Failed id)) plain is = absurd (false≢true is)
  fresh_receipt now (Some Abandon) plain is = absurd (false≢true is)

  -- once a request came, it is open
  pub begins_open : (inputs : List (Timed Input)) → ArePlain to inputs
      → list_any gives_final inputs ≡ false → list_any comes inputs ≡ true
      → Open (state_from step_machine key None inputs)
  begins_open [] plain calm came = absurd (false≢true came)
  begins_open (timed ∷ inputs) plain calm came =
      let parts = or_false (gives_final timed) (list_any gives_final inputs) calm in
      let step = to_server key own None timed.moment timed.input (kept_so to timed.input plain.0) in
      by_bool (comes timed)
      (λ here. open_then inputs (stepped key None timed).0
      (subst (λ (a : Option Life × List Out). Open a.0) (sym step)
      (fresh_receipt timed.moment timed.input plain.0 here)) plain.1 parts.1)
      (λ other. subst (λ h. Open (state_from step_machine key h inputs))
      (sym (ap (λ (a : Option Life × List Out). a.0) step
      ∙ fresh_other timed.moment timed.input plain.0 other))
      (begins_open inputs plain.1 parts.1
      (sym (ap (λ b. b || list_any comes inputs) other) ∙ came)))

  -- ---- the final response

  -- it has sent this final response
  abbrev pub answered : Context → List ℕ → ℕ → Life
  answered context bytes end = record {
    state = Completed;
    context = record context {
      last = Some bytes;
      timers = record { repeat = None; fired = 0; ending = Some end };
    };
  }

  abbrev pub answer_sent : Context → ℕ → Message → Option Life × List Out
  answer_sent context now response = (
    Some (answered context (written response) (now + 32000)),
    out.Send key context.to (written response) ∷ [],
  )

  by_class : (trying : Bool) (context : Context) (now : ℕ) (id : Id) (response : Message)
      (c : Class) → is_final_answer (Some (on.Answer c)) ≡ true
      → server_by key (Some (life_in context (cond trying Trying Proceeding))) now
      (Some (Answer id response)) (Some (on.Answer c)) ≡ answer_sent context now response
  unfolding life_after outputs_of made_of handed_out
  by_class true context now id response class.Success final = refl
  by_class true context now id response class.Failure final = refl
  by_class false context now id response class.Success final = refl
  by_class false context now id response class.Failure final = refl
  by_class trying context now id response class.Trying final = absurd (false≢true final)
  by_class trying context now id response class.Provisional final = absurd (false≢true final)

  by_line : (trying : Bool) (context : Context) (now : ℕ) (id : Id) (response : Message)
      (line : StartLine) → is_final_answer (answer_of line) ≡ true
      → server_by key (Some (life_in context (cond trying Trying Proceeding))) now
      (Some (Answer id response)) (answer_of line) ≡ answer_sent context now response
  by_line trying context now id response (start.Request uri) final = absurd (false≢true final)
  by_line trying context now id response (start.Response status reason) final =
      by_class trying context now id response (class_of status) final

  by_state : (state : State) → is_open state ≡ true → (context : Context) (now : ℕ) (id : Id)
      (response : Message) → is_final_answer (answer_of response.start) ≡ true
      → server_by key (Some (life_in context state)) now (Some (Answer id response))
      (answer_of response.start) ≡ answer_sent context now response
  by_state Calling opened context now id response final = absurd (false≢true opened)
  by_state Trying opened context now id response final =
      by_line true context now id response response.start final
  by_state Proceeding opened context now id response final =
      by_line false context now id response response.start final
  by_state Completed opened context now id response final = absurd (false≢true opened)
  by_state Accepted opened context now id response final = absurd (false≢true opened)
  by_state Confirmed opened context now id response final = absurd (false≢true opened)

  pub answer_step : (life : Life) → is_open life.state ≡ true → (now : ℕ) (id : Id)
      (response : Message) → is_final_answer (answer_of response.start) ≡ true
      → stepped key (Some life) (given_at now (Answer id response))
      ≡ answer_sent life.context now response
  answer_step life opened now id response final =
      to_server key own (Some life) now (Some (Answer id response)) refl
      ∙ by_state life.state opened life.context now id response final

-- ---- once it has sent its final response

-- all that is sent is this text
abbrev pub SendsOnly : List ℕ → Out → Type 0
SendsOnly bytes (out.Up up) = Unit {0}
SendsOnly bytes (out.Send key to sent) = sent ≡ bytes
SendsOnly bytes (out.Dropped place why) = Unit {0}

module _ (key : Key) (own : role_of key ≡ role.Server) (to : Addr) (context : Context)
    (bytes : List ℕ) (end : ℕ) where
  abbrev pub done : Life
  done = answered key own to context bytes end

  abbrev pub done_by : ℕ → Option Input → Option Trigger → Option Life × List Out
  done_by now input trigger = server_by key (Some done) now input trigger

  pub record SendsAgain (input : Option Input) (after : Option Life × List Out) : Type 0 where
    pub outs : List Out
    pub is : after ≡ (Some done, outs)
    pub only : AllByRecursion (SendsOnly bytes) outs
    pub again : is_receipt input ≡ true → 1 ≤ copies context.to bytes outs

  silent : (now : ℕ) (input : Option Input) (trigger : Option Trigger)
      → is_receipt input ≡ false → done_by now input trigger ≡ (Some done, [])
      → SendsAgain input (done_by now input trigger)
  silent now input trigger other is = record {
    outs = [];
    is = is;
    only = tt;
    again = λ here. absurd (false≢true (sym other ∙ here));
  }

  response_kept : (now : ℕ) (input : Option Input) (c : Class)
      → done_by now input (Some (on.Response c)) ≡ (Some done, [])
  response_kept now input class.Trying = refl
  response_kept now input class.Provisional = refl
  response_kept now input class.Success = refl
  response_kept now input class.Failure = refl

  answer_kept : (now : ℕ) (input : Option Input) (line : StartLine)
      → done_by now input (answer_of line) ≡ (Some done, [])
  answer_kept now input (start.Request uri) = refl
  answer_kept now input (start.Response status reason) = by_class (class_of status)
    where
      by_class : (c : Class) → done_by now input (Some (on.Answer c)) ≡ (Some done, [])
      by_class class.Trying = refl
      by_class class.Provisional = refl
      by_class class.Success = refl
      by_class class.Failure = refl

  sent_again : (now : ℕ) (id : Id) (message : Message) (reply_to : Addr)
      → done_by now (Some (Receive id message reply_to)) (Some on.Request)
      ≡ (Some done, out.Send key context.to bytes ∷ [])
  unfolding life_after outputs_of made_of handed_out
  sent_again now id message reply_to = refl

  failed : (now : ℕ) (id : Id)
      → SendsAgain (Some (Failed id)) (done_by now (Some (Failed id)) (Some on.Failed))
  unfolding life_after outputs_of made_of handed_out
  failed now id = record {
    outs = _;
    is = refl;
    only = (tt, tt);
    again = λ here. absurd (false≢true here);
  }

  quiet_tick : (now : ℕ) → now < end
      → done_by now None (tick_of now (Some done)) ≡ (Some done, [])
  quiet_tick now early =
      by_bool (nat_le end now)
      (λ late. let from : end ≤ now = leb-true end now late in absurd (omega (arith, from, early)))
      (λ before. ap (λ e. done_by now None (cond e (Some on.TimeoutDue) None)) before)

  pub by_trigger : (now : ℕ) (input : Option Input) → IsPlain to input → now < end
      → SendsAgain input (done_by now input (trigger_of (Some done) now input))
  by_trigger now None plain early =
      silent now None (tick_of now (Some done)) refl (quiet_tick now early)
  by_trigger now (Some (Receive id message reply_to)) plain early =
      let input : Option Input = Some (Receive id message reply_to) in
      by_bool (is_receipt input)
      (λ here. subst (λ t. SendsAgain input (done_by now input (Some t)))
      (sym (receipt_trigger message here))
      (record {
        outs = out.Send key context.to bytes ∷ [];
        is = sent_again now id message reply_to;
        only = (refl, tt);
        again = λ also. subst (λ n. 1 ≤ n) (sym (one_copy key context.to bytes)) (omega arith);
      }))
      (λ other. ⊎_elim
      (λ ack. subst (λ t. SendsAgain input (done_by now input (Some t))) (sym ack)
      (silent now input (Some on.Ack) other refl))
      (λ response. subst (λ t. SendsAgain input (done_by now input (Some t))) (sym response.1)
      (silent now input (Some (on.Response response.0)) other
      (response_kept now input response.0)))
      (no_receipt message other))
  by_trigger now (Some (Start id call_id message at)) plain early =
      silent now (Some (Start id call_id message at)) (Some on.Start) refl refl
  by_trigger now (Some (Answer id message)) plain early =
      silent now (Some (Answer id message)) (answer_of message.start) refl
      (answer_kept now (Some (Answer id message)) message.start)
  by_trigger now (Some (Failed id)) plain early = failed now id
  by_trigger now (Some Abandon) plain early = absurd plain

  pub record KeepsSending (inputs : List (Timed Input)) : Type 0 where
    pub only : AllByRecursion (SendsOnly bytes) (outputs_from step_machine key (Some done) inputs)
    pub often : count_by comes inputs
        ≤ copies context.to bytes (outputs_from step_machine key (Some done) inputs)

  all_only : (xs ys : List Out) → AllByRecursion (SendsOnly bytes) xs
      → AllByRecursion (SendsOnly bytes) ys → AllByRecursion (SendsOnly bytes) (xs ++ ys)
  all_only [] ys first second = second
  all_only (x ∷ xs) ys first second = (first.0, all_only xs ys first.1 second)

  one_more : (here : Bool) (sent rest more : ℕ) → (here ≡ true → 1 ≤ sent) → rest ≤ more
      → cond {A = ℕ} here 1 0 + rest ≤ sent + more
  one_more true sent rest more one later = let first = one refl in omega (arith, first, later)
  one_more false sent rest more one later = omega (arith, later)

  pub keeps_sending : (inputs : List (Timed Input)) → ArePlain to inputs
      → AllByRecursion (λ timed. timed.moment < end) inputs → KeepsSending inputs
  keeps_sending [] plain early = record { only = tt; often = omega arith }
  keeps_sending (timed ∷ inputs) plain early =
      let step = to_server key own (Some done) timed.moment timed.input
      (kept_so to timed.input plain.0) in
      let one = by_trigger timed.moment timed.input plain.0 early.0 in
      let later = keeps_sending inputs plain.1 early.1 in
      let rest = outputs_from step_machine key (Some done) inputs in
      let after : stepped key (Some done) timed ≡ (Some done, one.outs) = step ∙ one.is in
      let sums = sum_by-append (λ o. cond {A = ℕ} (is_copy context.to bytes o) 1 0) one.outs rest in
      let counts = sum_by-cons (λ t. cond {A = ℕ} (comes t) 1 0) timed inputs in
      record {
        only = subst (λ (a : Option Life × List Out). AllByRecursion (SendsOnly bytes)
            (a.1 ++ outputs_from step_machine key a.0 inputs)) (sym after)
            (all_only one.outs rest one.only later.only);
        often = subst (λ (a : Option Life × List Out). count_by comes (timed ∷ inputs)
            ≤ copies context.to bytes (a.1 ++ outputs_from step_machine key a.0 inputs)) (sym after)
            (let more = one_more (comes timed) (copies context.to bytes one.outs)
            (count_by comes inputs) (copies context.to bytes rest) one.again later.often in
            omega (arith, sums, counts, more));
      }
