-- A response of 300 to 699 to an INVITE goes out at each moment of timer G.
use Rattle.std.proofs.Common.{◌≡◌, ℕ, suc, ◌+◌, ◌<◌, ◌≤◌, Bool, true, false, cond, ◌&&◌, ◌||◌, List, [], ◌∷◌, ◌++◌, refl, sym, ◌∙◌, ap, subst, arith, codes, zero-add}
use Rattle.std.specs.Prelude.{Option, None, Some, nat_le, not}
use Rattle.std.proofs.lemmas.Bool.{false≢true}
use Rattle.sip_message.specs.declared.addr.Addr.{Addr}
use Rattle.sip_message.specs.declared.id.Id.{Id}
use Rattle.sip_message.specs.declared.key.Key.{Key}
use Rattle.sip_message.specs.declared.message.Message.{Message}
use Rattle.sip_message.specs.declared.start_line.StartLine.{StartLine}
use Rattle.sip_message.specs.declared.start_line.StartLine.TheVariants as start
use Rattle.sip_message.specs.Written.{written}
use Rattle.keyed_machine.specs.Machine.{Timed, given_at, outputs_from, tick_at}
use Rattle.keyed_machine.proofs.Lives.{IsWithinLife, is_within}
use Rattle.sip_transactions.specs.declared.input.Input.{Input}
use Rattle.sip_transactions.specs.declared.input.Input.TheVariants.{Receive, Start, Answer, Failed, Abandon}
use Rattle.sip_transactions.specs.declared.life.Context.{Context}
use Rattle.sip_transactions.specs.declared.life.Life.{Life}
use Rattle.sip_transactions.specs.declared.output.Out.{Out}
use Rattle.sip_transactions.specs.declared.output.Out.TheVariants as out
use Rattle.sip_transactions.specs.declared.state.Role.{Role}
use Rattle.sip_transactions.specs.declared.state.Role.TheVariants.{InviteServer}
use Rattle.sip_transactions.specs.declared.state.State.{State}
use Rattle.sip_transactions.specs.declared.state.State.TheVariants.{Proceeding, Completed}
use Rattle.sip_transactions.specs.declared.step.Pace.TheVariants.{Capped}
use Rattle.sip_transactions.specs.declared.step.Step.{Step}
use Rattle.sip_transactions.specs.declared.trigger.Class.TheVariants as class
use Rattle.sip_transactions.specs.declared.trigger.Trigger.{Trigger}
use Rattle.sip_transactions.specs.declared.trigger.Trigger.TheVariants as on
use Rattle.sip_transactions.specs.Rules.Timers.{interval}
use Rattle.sip_transactions.specs.Steps.Input.{answer_of, arrival_of, class_of, is_same_method, role_of, trigger_of}
use Rattle.sip_transactions.specs.Steps.Life.{acted_if, begun, life_after, step_machine, stepped}
use Rattle.sip_transactions.specs.Steps.Output.{handed_out, made_of, outputs_of}
use Rattle.sip_transactions.proofs.LawSteps.{by_step}
use Rattle.sip_transactions.proofs.RowFacts.{and-left, and-right, by_test}
use Rattle.sip_agent_laws.specs.Transactions.Closing.{final_step, has_leave, is_ack, leaves_by}
use Rattle.sip_agent_laws.specs.Transactions.Copies.{EachRejectionIsRepeated, TicksInTime, copies, latest_repeat}
use Rattle.sip_agent_laws.proofs.transactions.Inputs.{HeldIn, after_row, next_in, passes}
use Rattle.sip_agent_laws.proofs.transactions.Often.{Often, Repeats, from_first}
use Rattle.sip_agent_laws.proofs.transactions.OftenSent.{by_role, to_role}
use Rattle.sip_agent_laws.proofs.transactions.Timed.{always_within, can_be, implied, is_timed, reached}

-- ---- a server that waits for the ACK of its rejection

-- with what it had before the response
abbrev waits : Context → List ℕ → ℕ → ℕ → ℕ → Life
waits before text end repeat fired = record {
  state = Completed;
  context = record before {
    last = Some text;
    timers = record { repeat = Some repeat; fired = fired; ending = Some end };
  };
}

-- a trigger that changes nothing
abbrev is_unmoved : Trigger → Bool
is_unmoved on.Start = true
is_unmoved (on.Response class) = true
is_unmoved (on.Answer class) = true
is_unmoved trigger = false

module _ (key : Key) (own : role_of key ≡ InviteServer) (before : Context) (text : List ℕ) (end : ℕ)
  where
    abbrev by : ℕ → ℕ → ℕ → Option Input → Option Trigger → Option Life × List Out
    by repeat fired now input trigger =
        by_role InviteServer key (Some (waits before text end repeat fired)) now input trigger

    module _ (repeat fired now : ℕ) where
      abbrev life : Life
      life = waits before text end repeat fired

      unmoved : (input : Option Input) (trigger : Trigger) → is_unmoved trigger ≡ true
          → (by repeat fired now input (Some trigger)).0 ≡ Some life
      unfolding life_after
      unmoved input on.Start is = refl
      unmoved input (on.Response class.Trying) is = refl
      unmoved input (on.Response class.Provisional) is = refl
      unmoved input (on.Response class.Success) is = refl
      unmoved input (on.Response class.Failure) is = refl
      unmoved input (on.Answer class.Trying) is = refl
      unmoved input (on.Answer class.Provisional) is = refl
      unmoved input (on.Answer class.Success) is = refl
      unmoved input (on.Answer class.Failure) is = refl
      unmoved input on.RetransmitDue is = absurd (false≢true is)
      unmoved input on.TimeoutDue is = absurd (false≢true is)
      unmoved input on.Ack is = absurd (false≢true is)
      unmoved input on.Failed is = absurd (false≢true is)
      unmoved input on.Request is = absurd (false≢true is)

      came : (id : Id) (message : Message) (reply_to : Addr)
          → (by repeat fired now (Some (Receive id message reply_to)) (Some on.Request)).0
          ≡ Some life
      unfolding life_after made_of
      came id message reply_to = refl

      failed : (id : Id) → (by repeat fired now (Some (Failed id)) (Some on.Failed)).0 ≡ Some life
      unfolding life_after
      failed id = refl

      abbrev again : Option Life × List Out
      again = (
        Some (waits before text end (now + interval Capped (fired + 1)) (fired + 1)),
        out.Send key before.to text ∷ [],
      )

      by_due : (due : Bool)
          → by repeat fired now None (cond due (Some on.RetransmitDue) None)
          ≡ cond due again (Some life, [])
      unfolding life_after outputs_of made_of handed_out
      by_due true = refl
      by_due false = refl

      ticked : nat_le end now ≡ false → (due : Bool) → nat_le repeat now ≡ due
          → stepped key (Some life) (tick_at now) ≡ cond due again (Some life, [])
      ticked early due is =
          to_role key InviteServer own (Some life) now None refl
          ∙ ap (λ e. by repeat fired now None (cond e (Some on.TimeoutDue)
          (cond (nat_le repeat now) (Some on.RetransmitDue) None))) early
          ∙ ap (λ r. by repeat fired now None (cond r (Some on.RetransmitDue) None)) is
          ∙ by_due due

      calm : (input : Input) → leaves_by InviteServer Completed end now (Some input) ≡ false
          → (stepped key (Some life) (given_at now input)).0 ≡ Some life
      calm (Receive id message reply_to) none =
          ap (λ (after : Option Life × List Out). after.0)
          (to_role key InviteServer own (Some life) now (Some (Receive id message reply_to)) refl)
          ∙ by_line message.start none
        where
          by_line : (line : StartLine)
              → (is_ack (arrival_of line message.cseq.method) && true) ≡ false
              → (by repeat fired now (Some (Receive id message reply_to))
              (Some (arrival_of line message.cseq.method))).0 ≡ Some life
          by_line (start.Response status reason) none =
              unmoved (Some (Receive id message reply_to)) (on.Response (class_of status)) refl
          by_line (start.Request uri) none =
              by_test (is_same_method message.cseq.method (codes "ACK"))
              (λ ack. absurd (false≢true (sym none
              ∙ ap (λ b. is_ack (cond b on.Ack on.Request) && true) ack)))
              (λ other. ap (λ b. (by repeat fired now (Some (Receive id message reply_to))
              (Some (cond b on.Ack on.Request))).0) other
              ∙ came id message reply_to)
      calm (Start id call_id message to) none =
          ap (λ (after : Option Life × List Out). after.0)
          (to_role key InviteServer own (Some life) now (Some (Start id call_id message to)) refl)
          ∙ unmoved (Some (Start id call_id message to)) on.Start refl
      calm (Answer id message) none =
          ap (λ (after : Option Life × List Out). after.0)
          (to_role key InviteServer own (Some life) now (Some (Answer id message)) refl)
          ∙ by_line message.start
        where
          by_line : (line : StartLine)
              → (by repeat fired now (Some (Answer id message)) (answer_of line)).0 ≡ Some life
          by_line (start.Request uri) = refl
          by_line (start.Response status reason) =
              unmoved (Some (Answer id message)) (on.Answer (class_of status)) refl
      calm (Failed id) none =
          ap (λ (after : Option Life × List Out). after.0)
          (to_role key InviteServer own (Some life) now (Some (Failed id)) refl)
          ∙ failed id
      calm Abandon none = absurd (false≢true (sym none))

    abbrev repeats_so : Repeats
    repeats_so = record {
      key = key;
      to = before.to;
      text = text;
      pace = Capped;
      end = end;
      life = waits before text end;
      ends = λ timed. leaves_by InviteServer Completed end timed.moment timed.input;
      due = λ repeat fired. refl;
      ticked = ticked;
      calm = calm;
    }

-- ---- the response

module _ (key : Key) (own : role_of key ≡ InviteServer) (before : Context) (now : ℕ) (given : Id)
    (response : Message) where
  abbrev text : List ℕ
  text = written response

  abbrev after : Option Life × List Out
  after = (
    Some (waits before text (now + 32000) (now + 500) 0),
    out.Send key before.to text ∷ [],
  )

  abbrev proceeding : Option Life
  proceeding = Some record { state = Proceeding; context = before }

  by_answer : by_role InviteServer key proceeding now (Some (Answer given response))
      (Some (on.Answer class.Failure)) ≡ after
  unfolding life_after outputs_of made_of handed_out
  by_answer = refl

  pub rejects : answer_of response.start ≡ Some (on.Answer class.Failure)
      → stepped key proceeding (given_at now (Answer given response)) ≡ after
  rejects failure =
      to_role key InviteServer own proceeding now (Some (Answer given response)) refl
      ∙ ap (by_role InviteServer key proceeding now (Some (Answer given response))) failure
      ∙ by_answer

  -- from a server in Proceeding on
  pub repeated_from : answer_of response.start ≡ Some (on.Answer class.Failure)
      → (lag repeats last : ℕ) (waiting : List (Timed Input))
      → TicksInTime step_machine lag key (stepped key proceeding (given_at now (Answer given response))).0
      (waiting ++ tick_at last ∷ [])
      → has_leave InviteServer Completed (now + 32000) waiting ≡ false
      → now + latest_repeat Capped lag repeats < last
      → suc repeats ≤ copies before.to text
      (outputs_from step_machine key proceeding (given_at now (Answer given response) ∷ waiting))
  repeated_from failure lag repeats last waiting in_time none late =
      let repeated = repeats_so key own before text (now + 32000) in
      subst (λ n. suc repeats ≤ n) (zero-add _)
      (subst (Often repeated lag now repeats last late 0 waiting) (sym (rejects failure))
      (from_first repeated lag now repeats last late waiting none (now + 500) (omega arith)) in_time)

-- ---- what leads there

abbrev is_completed : Option State → Bool
is_completed (Some Completed) = true
is_completed state = false

abbrev is_proceeding : State → Bool
is_proceeding Proceeding = true
is_proceeding state = false

abbrev is_rejection : Trigger → Bool
is_rejection (on.Answer class.Failure) = true
is_rejection trigger = false

-- only a response of 300 to 699 in Proceeding
abbrev leads_so : Role → State → Trigger → Step → Bool
leads_so role state trigger step = not (can_be InviteServer state)
    || (not (is_completed (final_step InviteServer state trigger))
    || (is_proceeding state && is_rejection trigger))

proceeding_is : (state : State) → is_proceeding state ≡ true → state ≡ Proceeding
proceeding_is Proceeding is = refl
proceeding_is state is = absurd (false≢true is)

rejection_is : (trigger : Trigger) → is_rejection trigger ≡ true → trigger ≡ on.Answer class.Failure
rejection_is (on.Answer class.Failure) is = refl
rejection_is trigger is = absurd (false≢true is)

led_by : (state : State) (trigger : Trigger) → can_be InviteServer state ≡ true
    → final_step InviteServer state trigger ≡ Some Completed
    → (state ≡ Proceeding) × (trigger ≡ on.Answer class.Failure)
led_by state trigger possible leads =
    let both = implied (is_completed (final_step InviteServer state trigger)) _
    (ap is_completed leads) (implied (can_be InviteServer state) _ possible
    (passes leads_so refl InviteServer state trigger)) in (
      proceeding_is state (and-left (is_proceeding state) _ both),
      rejection_is trigger (and-right (is_proceeding state) _ both),
    )

-- ---- the address of the answers

abbrev Answers : Addr → State → Context → Type 0
Answers to state context = context.to ≡ to

begun_to : (key : Key) (came : ℕ) (id : Id) (invite : Message) (reply_to : Addr) (step : Step)
    → HeldIn (Answers reply_to) (acted_if key came (Some (Receive id invite reply_to)) None
    (begun (role_of key) (Some (Receive id invite reply_to))) step).0
unfolding begun
begun_to key came id invite reply_to step =
    after_row (Answers reply_to) None _ step came _ (λ next is. refl)

first_to : (key : Key) (came : ℕ) (id : Id) (invite : Message) (reply_to : Addr)
    → HeldIn (Answers reply_to) (stepped key None (given_at came (Receive id invite reply_to))).0
first_to key came id invite reply_to =
    by_step (λ after. HeldIn (Answers reply_to) after.0) key None
    (given_at came (Receive id invite reply_to)) tt tt
    (λ step row. begun_to key came id invite reply_to step)

earlier_within : (key : Key) (held : Option Life) (earlier later : List (Timed Input))
    → IsWithinLife step_machine key held (earlier ++ later)
    → IsWithinLife step_machine key held earlier
earlier_within key held [] later within = tt
earlier_within key held (timed ∷ earlier) later within =
    (within.0, earlier_within key (stepped key held timed).0 earlier later within.1)

-- ---- the law

pub a_rejection_is_repeated : EachRejectionIsRepeated step_machine
a_rejection_is_repeated key inputs life waiting closes server lag repeats came now end id given
    invite response reply_to comes gives in_time none late =
    let held = closes.held in
    let answer = given_at now (Answer given response) in
    let first = (stepped key None life.first).0 in
    let led = led_by held.state closes.trigger
    (subst (λ role. can_be role held.state ≡ true) server
    (is_timed (role_of key) _ held (reached key (life.first ∷ closes.earlier)) closes.holds).possible)
    (subst (λ role. final_step role held.state closes.trigger ≡ Some Completed) server closes.leads)
    in
    let failure : answer_of response.start ≡ Some (on.Answer class.Failure) =
    subst (λ timed. trigger_of (Some held) timed.moment timed.input ≡ Some (on.Answer class.Failure))
    gives (subst (λ t. trigger_of (Some held) closes.given.moment closes.given.input ≡ Some t) led.1
    closes.triggered) in
    let within : IsWithinLife step_machine key first closes.earlier =
    earlier_within key first closes.earlier (closes.given ∷ waiting)
    (subst (IsWithinLife step_machine key first) closes.are (is_within step_machine key inputs life))
    in
    let to : held.context.to ≡ reply_to =
    subst (HeldIn (Answers reply_to)) closes.holds
    (always_within (Answers reply_to) key
    (λ l timed is. next_in (Answers reply_to) key l timed is (λ trigger is_t next into. is)) first
    closes.earlier within
    (subst (λ timed. HeldIn (Answers reply_to) (stepped key None timed).0) (sym comes)
    (first_to key came id invite reply_to))) in
    let as_held : ◌≡◌ {A = Life} record { state = Proceeding; context = held.context } held =
    λ i. record { state = sym led.0 i; context = held.context } in
    let Law : Life → Timed Input → Type 0 = λ l timed.
    TicksInTime step_machine lag key (stepped key (Some l) timed).0 (waiting ++ tick_at end ∷ [])
    → suc repeats ≤ copies reply_to (written response)
    (outputs_from step_machine key (Some l) (timed ∷ waiting)) in
    let so : Law record { state = Proceeding; context = held.context } answer =
    λ timely. subst (λ address. suc repeats ≤ copies address (written response)
    (outputs_from step_machine key (Some record { state = Proceeding; context = held.context })
    (answer ∷ waiting))) to
    (repeated_from key server held.context now given response failure lag repeats end waiting timely
    none late) in
    subst (Law held) (sym gives) (subst (λ l. Law l answer) as_held so) in_time.1
