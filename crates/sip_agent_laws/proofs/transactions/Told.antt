-- What comes up by a row, and by the inputs of a life, counted.
use Rattle.std.proofs.Common.{◌≡◌, ℕ, ◌+◌, Bool, true, false, List, refl, sym, ◌∙◌, ap, subst, arith, codes, add-zero, zero-add, [], ◌∷◌}
use Rattle.std.specs.Prelude.{Option, None, Some, cond, not, nat_le, nat_lt, option_map, option_to_list}
use Rattle.std.proofs.lemmas.List.Sums.{sum_by-append}
use Rattle.std.proofs.lemmas.Bool.Decides.{nat_tests}
use Rattle.sip_message.specs.declared.addr.Addr.{Addr}
use Rattle.sip_message.specs.declared.key.Key.{Key}
use Rattle.sip_message.specs.declared.message.Message.{Message}
use Rattle.sip_message.specs.declared.start_line.StartLine.{StartLine}
use Rattle.sip_message.specs.declared.start_line.StartLine.TheVariants as start
use Rattle.sip_transactions.specs.declared.input.Input.{Input}
use Rattle.sip_transactions.specs.declared.input.Input.TheVariants.{Receive, Start, Answer, Failed, Abandon}
use Rattle.sip_transactions.specs.declared.life.Context.{Context}
use Rattle.sip_transactions.specs.declared.life.Life.{Life}
use Rattle.sip_transactions.specs.declared.output.UpKind.{UpKind}
use Rattle.sip_transactions.specs.declared.output.UpKind.TheVariants as kind
use Rattle.sip_transactions.specs.declared.step.Step.{Step}
use Rattle.sip_transactions.specs.declared.step.UpAction.{UpAction}
use Rattle.sip_transactions.specs.declared.step.UpAction.TheVariants as up
use Rattle.sip_transactions.specs.declared.trigger.Class.{Class}
use Rattle.sip_transactions.specs.declared.trigger.Class.TheVariants as class
use Rattle.sip_transactions.specs.declared.trigger.Trigger.{Trigger}
use Rattle.sip_transactions.specs.declared.trigger.Trigger.TheVariants as on
use Rattle.sip_transactions.specs.Steps.Input.{answer_of, arrival_of, arrived_in, class_of, is_same_method, trigger_of, is_abandon, role_of}
use Rattle.sip_transactions.specs.Steps.Output.{handed_out, kind_of, outputs_of, send_out, sent_bytes}
use Rattle.sip_transactions.proofs.RowFacts.{by_test}
use Rattle.sip_agent_laws.specs.Transactions.Outcomes.{is_final, is_outcome, is_progress, is_provisional, is_up, ups}
use Rattle.std.specs.List.{AllByRecursion}
use Rattle.std.specs.Option.{option_map_or}
use Rattle.std.proofs.lemmas.Bool.{false≢true}
use Rattle.keyed_machine.specs.Machine.{Timed, outputs_from, state_from}
use Rattle.keyed_machine.proofs.Lives.{IsWithinLife}
use Rattle.sip_transactions.specs.declared.output.Out.{Out}
use Rattle.sip_transactions.specs.declared.state.State.{State}
use Rattle.sip_transactions.specs.Steps.Life.{entered, life_after, life_in, state_of, step_machine, stepped}
use Rattle.sip_agent_laws.proofs.transactions.Inputs.{tick_trigger, by_each, by_input, rule}

-- a response of some classes came
abbrev comes : (Class → Bool) → Trigger → Bool
comes classes (on.Response c) = classes c
comes classes trigger = false

-- a row tells of the responses of some classes, and maybe of timeouts and failed sends
abbrev pub tells : (Class → Bool) → Bool → Bool → Trigger → UpAction → Bool
tells classes timeouts failures trigger up.Nothing = false
tells classes timeouts failures trigger up.Message = comes classes trigger
tells classes timeouts failures trigger up.Timeout = timeouts
tells classes timeouts failures trigger up.Failed = failures
tells classes timeouts failures trigger up.NoTransaction = false

-- what comes up counts so
pub record Counts (test : UpKind → Bool) (classes : Class → Bool) (timeouts failures : Bool) : Type 0 where
  pub response : (message : Message) (status : ℕ) (reason : List ℕ)
      → message.start ≡ start.Response status reason
      → test (kind.Response message) ≡ classes (class_of status)
  pub request : (message : Message) (reply_to : Addr) → test (kind.Request message reply_to) ≡ false
  pub ack : (message : Message) → test (kind.Ack message) ≡ false
  pub timeout : test kind.Timeout ≡ timeouts
  pub failed : test kind.Failed ≡ failures

module _ (test : UpKind → Bool) (classes : Class → Bool) (timeouts failures : Bool)
    (counts : Counts test classes timeouts failures) where
  -- a message that came
  came_up : (message : Message) (reply_to : Addr) (line : StartLine) → message.start ≡ line
      → test (kind_of line message reply_to)
      ≡ tells classes timeouts failures (arrival_of line message.cseq.method) up.Message
  came_up message reply_to (start.Response status reason) is =
      counts.response message status reason is
  came_up message reply_to (start.Request uri) is =
      by_test (is_same_method message.cseq.method (codes "ACK"))
      (λ ack. subst (Same message reply_to) (sym ack) (counts.ack message))
      (λ other. subst (Same message reply_to) (sym other) (counts.request message reply_to))
    where
      Same : Message → Addr → Bool → Type 0
      Same message reply_to b = test (cond b (kind.Ack message) (kind.Request message reply_to))
          ≡ tells classes timeouts failures (cond b on.Ack on.Request) up.Message

  no_answer : (line : StartLine) (trigger : Trigger) → answer_of line ≡ Some trigger
      → comes classes trigger ≡ false
  no_answer (start.Request uri) trigger is = cc
  no_answer (start.Response status reason) trigger is =
      let same : on.Answer (class_of status) ≡ trigger = cc in sym (ap (comes classes) same)

  handed_up : (key : Key) (context : Context) (handed : UpAction) (held : Option Life) (now : ℕ)
      (input : Option Input) (trigger : Trigger) → trigger_of held now input ≡ Some trigger
      → ups test (option_to_list (handed_out key context handed (arrived_in input)))
      ≡ cond (tells classes timeouts failures trigger handed) 1 0
  unfolding handed_out
  handed_up key context up.Nothing held now input trigger is = refl
  handed_up key context up.NoTransaction held now input trigger is = refl
  handed_up key context up.Timeout held now input trigger is =
      zero-add _ ∙ ap (λ b. cond b 1 0) counts.timeout
  handed_up key context up.Failed held now input trigger is =
      zero-add _ ∙ ap (λ b. cond b 1 0) counts.failed
  handed_up key context up.Message held now None trigger is =
      sym (ap (λ b. cond {A = ℕ} b 1 0)
      (tick_trigger (λ t. comes classes t ≡ false) refl refl held now trigger is))
  handed_up key context up.Message held now (Some (Receive id message reply_to)) trigger is =
      let same : arrival_of message.start message.cseq.method ≡ trigger = cc in
      zero-add _ ∙ ap (λ b. cond b 1 0) (came_up message reply_to message.start refl
      ∙ ap (comes classes) same)
  handed_up key context up.Message held now (Some (Start id call_id message to)) trigger is =
      let same : on.Start ≡ trigger = cc in
      ap (λ t. cond {A = ℕ} (comes classes t) 1 0) same
  handed_up key context up.Message held now (Some (Answer id message)) trigger is =
      sym (ap (λ b. cond {A = ℕ} b 1 0) (no_answer message.start trigger is))
  handed_up key context up.Message held now (Some (Failed id)) trigger is =
      let same : on.Failed ≡ trigger = cc in
      ap (λ t. cond {A = ℕ} (comes classes t) 1 0) same
  handed_up key context up.Message held now (Some Abandon) trigger is = cc

  sends_none : (key : Key) (to : Addr) (bytes : Option (List ℕ))
      → ups test (option_to_list (option_map (send_out key to) bytes)) ≡ 0
  sends_none key to None = refl
  sends_none key to (Some bytes) = refl

  -- what a row says
  pub ups-row : (key : Key) (context : Context) (step : Step) (held : Option Life) (now : ℕ)
      (input : Option Input) (made : Option (List ℕ)) (trigger : Trigger)
      → trigger_of held now input ≡ Some trigger
      → ups test (outputs_of key context step made (arrived_in input))
      ≡ cond (tells classes timeouts failures trigger step.handed) 1 0
  unfolding outputs_of
  ups-row key context step held now input made trigger is =
      sum_by-append (λ out. cond (is_up test out) 1 0)
      (option_to_list (handed_out key context step.handed (arrived_in input)))
      (option_to_list (option_map (send_out key context.to)
      (sent_bytes context.last step.sent made)))
      ∙ ap (λ n. ups test (option_to_list (handed_out key context step.handed (arrived_in input)))
      + n) (sends_none key context.to (sent_bytes context.last step.sent made)) ∙ add-zero _
      ∙ handed_up key context step.handed held now input trigger is

-- ---- outcomes and progress

abbrev pub finals : Class → Bool
finals class.Trying = false
finals class.Provisional = false
finals class.Success = true
finals class.Failure = true

abbrev pub provisionals : Class → Bool
provisionals c = not (finals c)

final_status : (status : ℕ) → nat_le 200 status ≡ finals (class_of status)
final_status status = grind (arith, nat_tests)

provisional_status : (status : ℕ) → nat_lt status 200 ≡ not (nat_le 200 status)
provisional_status status = grind (arith, nat_tests)

pub outcomes_count : Counts is_outcome finals true true
outcomes_count = record {
  response = λ message status reason is. ap is_final is ∙ final_status status;
  request = λ message reply_to. refl;
  ack = λ message. refl;
  timeout = refl;
  failed = refl;
}

pub progress_count : Counts is_progress provisionals false false
progress_count = record {
  response = λ message status reason is. ap is_provisional is ∙ provisional_status status
      ∙ ap not (final_status status);
  request = λ message reply_to. refl;
  ack = λ message. refl;
  timeout = refl;
  failed = refl;
}

state_in : (context : Context) (state : Option State)
    → state_of (option_map (life_in context) state) ≡ state
state_in context None = refl
state_in context (Some s) = refl

-- the state after a row
pub state-row : (state : Option State) (context : Context) (step : Step) (now : ℕ)
    (made : Option (List ℕ))
    → state_of (life_after state context step now made) ≡ entered step.next state
unfolding life_after
state-row state context step now made = state_in _ (entered step.next state)

at_equal : (F : ℕ → ℕ → Type 0) {a b c d : ℕ} → a ≡ c → b ≡ d → F c d → F a b
at_equal F {a} {b} {c} {d} one other holds =
    subst (λ n. F n b) (sym one) (subst (F c) (sym other) holds)

-- a number for each state, and 0 if nothing is held
abbrev pub score : (State → ℕ) → Option State → ℕ
score worth state = option_map_or worth state 0

module _ (test : UpKind → Bool) (classes : Class → Bool) (timeouts failures : Bool)
    (counts : Counts test classes timeouts failures) (worth : State → ℕ) (Fits : ℕ → ℕ → ℕ → Type 0) where
  -- the scores before and after an input, and what comes up by it
  pub counted : (key : Key) (life : Life) (timed : Timed Input)
      → (is_abandon timed.input ≡ true → Fits (worth life.state) 0 0)
      → Fits (worth life.state) 0 (worth life.state)
      → ((trigger : Trigger) → let step = rule (role_of key) life.state trigger in
      Fits (worth life.state) (cond (tells classes timeouts failures trigger step.handed) 1 0)
      (score worth (entered step.next (Some life.state))))
      → Fits (worth life.state) (ups test (stepped key (Some life) timed).1)
      (score worth (state_of (stepped key (Some life) timed).0))
  counted key life timed over calm acts =
      let G : Option Life × List Out → Type 0 =
      λ after. Fits (worth life.state) (ups test after.1) (score worth (state_of after.0)) in
      by_input G key life timed over (λ goes_on. by_each G key life timed
      (trigger_of (Some life) timed.moment timed.input) (λ none. calm) (λ trigger is.
      let step = rule (role_of key) life.state trigger in
      at_equal (Fits (worth life.state))
      (ups-row test classes timeouts failures counts key life.context step (Some life) timed.moment
      timed.input _ trigger is)
      (ap (score worth) (state-row (Some life.state) life.context step timed.moment _))
      (acts trigger)))

  -- and before and after a list of inputs within a life
  pub counted_all : (key : Key) (Q : Timed Input → Type 0)
      → ((before after final said more : ℕ) → Fits before said after → Fits after more final
      → Fits before (said + more) final)
      → ((n : ℕ) → Fits n 0 n)
      → ((life : Life) (timed : Timed Input) → Q timed
      → Fits (worth life.state) (ups test (stepped key (Some life) timed).1)
      (score worth (state_of (stepped key (Some life) timed).0)))
      → (held : Option Life) (inputs : List (Timed Input)) → AllByRecursion Q inputs
      → IsWithinLife step_machine key held inputs
      → Fits (score worth (state_of held)) (ups test (outputs_from step_machine key held inputs))
      (score worth (state_of (state_from step_machine key held inputs)))
  counted_all key Q joined none each held [] all within = none (score worth (state_of held))
  counted_all key Q joined none each None (timed ∷ inputs) all within =
      absurd (false≢true within.0)
  counted_all key Q joined none each (Some life) (timed ∷ inputs) all within =
      let after = stepped key (Some life) timed in
      subst (λ n. Fits (worth life.state) n
      (score worth (state_of (state_from step_machine key after.0 inputs))))
      (sym (sum_by-append (λ out. cond (is_up test out) 1 0) after.1
      (outputs_from step_machine key after.0 inputs)))
      (joined _ _ _ _ _ (each life timed all.0)
      (counted_all key Q joined none each after.0 inputs all.1 within.1))
