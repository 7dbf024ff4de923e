-- A client transaction of a request other than INVITE goes on without a final response, or hands up
-- its outcome.
use Rattle.std.proofs.Common.{◌≡◌, ◌⊎◌, inl, inr, ⊎_elim, ℕ, ◌+◌, ◌≤◌, Bool, true, false, cond, ◌&&◌, ◌||◌, List, [], ◌∷◌, ◌++◌, map, refl, sym, ap, ◌∙◌, subst, arith, append-nil, codes, zero-add}
use Rattle.std.specs.Prelude.{filter, not, nat_le, Option, None, Some, option_map, option_to_list}
use Rattle.std.specs.BTreeMap.{is_at}
use Rattle.std.specs.List.{AllByRecursion}
use Rattle.std.proofs.lemmas.Bool.{false≢true, leb-true}
use Rattle.std.proofs.lemmas.List.Sums.{sum_by-cons}
use Rattle.sip_message.specs.declared.addr.Addr.{Addr}
use Rattle.sip_message.specs.declared.id.Id.{Id}
use Rattle.sip_message.specs.declared.key.Key.{Key}
use Rattle.sip_message.specs.declared.message.Message.{Message}
use Rattle.sip_message.specs.declared.start_line.StartLine.{StartLine}
use Rattle.sip_message.specs.declared.start_line.StartLine.TheVariants as start
use Rattle.sip_message.specs.Key.{key_cmp, keys_total}
use Rattle.sip_message.specs.Keys.{exact_keys}
use Rattle.sip_timers.specs.declared.estimate.TheConstants.{LIFETIME}
use Rattle.keyed_machine.specs.declared.item.Item.{Item}
use Rattle.keyed_machine.specs.Machine.{Timed, adds, next, tick_at}
use Rattle.keyed_machine.specs.Phase.{inputs_of as own_items, states_then}
use Rattle.keyed_machine.proofs.Ordered.{by_bool, exact_at}
use Rattle.sip_transactions.specs.declared.input.Command.{Command}
use Rattle.sip_transactions.specs.declared.input.Command.TheVariants as order
use Rattle.sip_transactions.specs.declared.input.Input.{Input}
use Rattle.sip_transactions.specs.declared.input.Input.TheVariants.{Receive, Start, Answer, Failed, Abandon}
use Rattle.sip_transactions.specs.declared.life.Context.{Context}
use Rattle.sip_transactions.specs.declared.life.Life.{Life}
use Rattle.sip_transactions.specs.declared.output.Out.{Out}
use Rattle.sip_transactions.specs.declared.output.Out.TheVariants as out
use Rattle.sip_transactions.specs.declared.output.Up.{Up as AnUp}
use Rattle.sip_transactions.specs.declared.output.UpKind.{UpKind}
use Rattle.sip_transactions.specs.declared.output.UpKind.TheVariants as kind
use Rattle.sip_transactions.specs.declared.state.Role.{Role}
use Rattle.sip_transactions.specs.declared.state.Role.TheVariants as role
use Rattle.sip_transactions.specs.declared.state.State.{State}
use Rattle.sip_transactions.specs.declared.state.State.TheVariants.{Calling, Trying, Proceeding}
use Rattle.sip_transactions.specs.declared.step.Step.{Step}
use Rattle.sip_transactions.specs.declared.step.UpAction.{UpAction}
use Rattle.sip_transactions.specs.declared.step.UpAction.TheVariants as up
use Rattle.sip_transactions.specs.declared.trigger.Trigger.{Trigger}
use Rattle.sip_transactions.specs.declared.trigger.Trigger.TheVariants as on
use Rattle.sip_transactions.specs.Machine.{transaction_machine}
use Rattle.sip_transactions.specs.Rules.Step.{step_at}
use Rattle.sip_transactions.specs.Shard.{asked_by, command_key}
use Rattle.sip_transactions.specs.Steps.Input.{answer_of, arrival_of, arrived_in, class_of, is_abandon, is_same_method, message_in, role_of, trigger_of}
use Rattle.sip_transactions.specs.Steps.Life.{acted, state_of, stepped}
use Rattle.sip_transactions.specs.Steps.Output.{handed_out, kind_of, made_bytes, outputs_of, send_out, sent_bytes}
use Rattle.sip_timers.specs.Queue.{is_due}
use Rattle.sip_transactions.proofs.Firings.{is_client}
use Rattle.sip_transactions.proofs.LawSteps.{by_step}
use Rattle.sip_transactions.proofs.Rules.{step_is}
use Rattle.sip_agent_laws.specs.Agents.Open.{is_open}
use Rattle.sip_agent_laws.specs.Agents.Outcomes.{Causes}
use Rattle.sip_agent_laws.specs.Transactions.Outcomes.{is_outcome, is_up, ups}
use Rattle.sip_agent_laws.proofs.agents.Commands.{IsAbandonOf, ordered, run, run_keeps, ordered_keeps}
use Rattle.sip_agent_laws.proofs.agents.FirstPhase.{AreArrivals, IsArrival, Items, States, all_of, after_item, no_start, tells, kept_then}
use Rattle.sip_agent_laws.proofs.agents.Lists.{Among, among_either, among_left, among_right, each_of}
use Rattle.sip_agent_laws.proofs.agents.OpenLives.{is_server, lives_on}
use Rattle.sip_agent_laws.proofs.transactions.Ends.{Asks, HasAsked, first_asks, is_invite_client, is_plain_client, lack, lacks, is_not, next_asks, pends, rest_enough, tick_asked}
use Rattle.sip_agent_laws.proofs.transactions.Inputs.{HeldIn, begins, by_each, by_input, first_in, next_in, passes, rule, ups_each}
use Rattle.sip_agent_laws.proofs.transactions.Timed.{IsTimed, entered_passes, enters, implied, starts, stays}
use Rattle.sip_agent_laws.proofs.transactions.Told.{finals, outcomes_count, score, tells as row_tells, ups-row}

-- ---- outputs

-- what comes up is of this transaction, under this id and this Call-ID
abbrev pub IsNamed : Key → Id → List ℕ → Out → Type 0
IsNamed k id call_id (out.Up up) = (up.key ≡ k) × (up.id ≡ id) × (up.call_id ≡ call_id)
IsNamed k id call_id (out.Send key to bytes) = Unit {0}
IsNamed k id call_id (out.Dropped place why) = Unit {0}

pub all_named : (k : Key) (life : Life) (timed : Timed Input)
    → AllByRecursion (IsNamed k life.context.id life.context.call_id)
    (stepped k (Some life) timed).1
all_named k life timed =
    by_step (λ after. AllByRecursion (IsNamed k life.context.id life.context.call_id) after.1) k
    (Some life) timed tt tt
    (λ step row. ups_each (IsNamed k life.context.id life.context.call_id) k life.context
    (λ bytes. tt) (λ its. (refl, refl, refl)) (λ place why. tt) step _ (arrived_in timed.input))

-- the outcome of a request comes up; such an input brings it about, of which this is true
pub record HandsUp (k : Key) (id : Id) (call_id : List ℕ) (end : ℕ) (Came : Timed Input → Type 0)
    (outs : List Out) : Type 0 where
  pub up : AnUp
  pub among : Among outs (out.Up up)
  pub key_is : up.key ≡ k
  pub id_is : up.id ≡ id
  pub call_is : up.call_id ≡ call_id
  pub outcome : is_outcome up.kind ≡ true
  pub cause : Timed Input
  pub came : Came cause
  pub causes : Causes end cause up.kind

some_up : (outs : List Out) → (ups is_outcome outs ≡ 0)
    ⊎ ((up : AnUp) × Among outs (out.Up up) × (is_outcome up.kind ≡ true))
some_up [] = inl refl
some_up (out.Up up ∷ outs) =
    by_bool (is_outcome up.kind)
    (λ one. inr (up, inl refl, one))
    (λ none. ⊎_elim
    (λ rest. inl (omega (
      arith,
      sum_by-cons (λ o. cond {A = ℕ} (is_up is_outcome o) 1 0) (out.Up up) outs,
      ap (λ b. cond {A = ℕ} b 1 0) none,
      rest,
    )))
    (λ later. inr (later.0, inr later.1, later.2)) (some_up outs))
some_up (out.Send key to bytes ∷ outs) =
    ⊎_elim
    (λ rest. inl (sum_by-cons (λ o. cond {A = ℕ} (is_up is_outcome o) 1 0)
    (out.Send key to bytes) outs ∙ (zero-add _ ∙ rest)))
    (λ later. inr (later.0, inr later.1, later.2)) (some_up outs)
some_up (out.Dropped place why ∷ outs) =
    ⊎_elim
    (λ rest. inl (sum_by-cons (λ o. cond {A = ℕ} (is_up is_outcome o) 1 0)
    (out.Dropped place why) outs ∙ (zero-add _ ∙ rest)))
    (λ later. inr (later.0, inr later.1, later.2)) (some_up outs)

-- ---- a state without a final response

pub open_lacks : (state : State) → is_open role.Client state ≡ lacks role.Client state
open_lacks Calling = refl
open_lacks _ = refl

asks_open : (state : State) → is_open role.Client state ≡ true
    → (lacks role.Client state && not (is_invite_client role.Client && pends state)) ≡ true
asks_open Trying opened = refl
asks_open Proceeding opened = refl
asks_open _ opened = opened

one_lacks : (b : Bool) → 1 ≤ cond {A = ℕ} b 1 0 → b ≡ true
one_lacks true one = refl
one_lacks false one = absurd (omega (arith, one))

-- ---- commands of calls

-- a start or a response of the user
abbrev is_order : Trigger → Bool
is_order on.Start = true
is_order (on.Answer c) = true
is_order _ = false

abbrev quiet_order : Role → State → Trigger → Step → Bool
quiet_order r state trigger step = not (is_plain_client r)
    || (not (is_order trigger) || not (row_tells finals true true trigger step.handed))

abbrev stays_open : Role → State → Trigger → Step → Bool
stays_open r state trigger step = not (is_plain_client r)
    || (not (is_order trigger) || (not (lacks r state) || enters (lacks r) (Some state) step))

abbrev begins_open : Role → Trigger → Step → Bool
begins_open r trigger step = not (is_plain_client r) || enters (lacks r) None step

abbrev IsOrder : Option Input → Type 0
IsOrder (Some (Start id call_id message to)) = Unit {0}
IsOrder (Some (Answer id message)) = Unit {0}
IsOrder _ = ⊥

answers_order : (line : StartLine) (trigger : Trigger) → answer_of line ≡ Some trigger
    → is_order trigger ≡ true
answers_order (start.Request uri) trigger is = cc
answers_order (start.Response status reason) trigger is =
    let same : on.Answer (class_of status) ≡ trigger = cc in
    sym (ap is_order same)

ordered_so : (life : Life) (now : ℕ) (input : Option Input) → IsOrder input
    → (trigger : Trigger) → trigger_of (Some life) now input ≡ Some trigger
    → is_order trigger ≡ true
ordered_so life now (Some (Start id call_id message to)) order trigger is =
    let same : on.Start ≡ trigger = cc in
    sym (ap is_order same)
ordered_so life now (Some (Answer id message)) order trigger is =
    answers_order message.start trigger is
ordered_so life now _ order trigger is = absurd order

no_abandon_order : (input : Option Input) → IsOrder input → is_abandon input ≡ false
no_abandon_order None order = absurd order
no_abandon_order (Some Abandon) order = absurd order
no_abandon_order _ order = refl

-- ---- what brings an outcome about

abbrev is_timeout_due : Trigger → Bool
is_timeout_due on.TimeoutDue = true
is_timeout_due _ = false

abbrev is_failed_send : Trigger → Bool
is_failed_send on.Failed = true
is_failed_send _ = false

-- a timeout is handed up once it is due, a failure when one is reported
abbrev handed_for : UpAction → Trigger → Bool
handed_for up.Nothing trigger = true
handed_for up.Message trigger = true
handed_for up.Timeout trigger = is_timeout_due trigger
handed_for up.Failed trigger = is_failed_send trigger
handed_for up.NoTransaction trigger = true

abbrev hands_for : Role → State → Trigger → Step → Bool
hands_for r state trigger step = handed_for step.handed trigger

arrives_plain : (line : StartLine) (method : List ℕ)
    → (is_timeout_due (arrival_of line method) ≡ false)
    × (is_failed_send (arrival_of line method) ≡ false)
arrives_plain (start.Request uri) method = by_ack (is_same_method method (codes "ACK"))
  where
    by_ack : (ack : Bool) → (is_timeout_due (cond ack on.Ack on.Request) ≡ false)
        × (is_failed_send (cond ack on.Ack on.Request) ≡ false)
    by_ack true = (refl, refl)
    by_ack false = (refl, refl)
arrives_plain (start.Response status reason) method = (refl, refl)

answers_plain : (line : StartLine) (trigger : Trigger) → answer_of line ≡ Some trigger
    → (is_timeout_due trigger ≡ false) × (is_failed_send trigger ≡ false)
answers_plain (start.Request uri) trigger is = absurd cc
answers_plain (start.Response status reason) trigger is =
    let same : on.Answer (class_of status) ≡ trigger = cc in
    (sym (ap is_timeout_due same), sym (ap is_failed_send same))

same_trigger : (one other : Trigger) → Some one ≡ Some other → one ≡ other
same_trigger one other same = cc

due_end : (now end : ℕ) (ending repeat : Option ℕ) (trigger : Trigger) → ending ≡ Some end
    → cond (is_due now ending) (Some on.TimeoutDue) (cond (is_due now repeat)
    (Some on.RetransmitDue) None) ≡ Some trigger
    → is_timeout_due trigger ≡ true → end ≤ now
due_end now end ending repeat trigger ends is due =
    by_bool (nat_le end now) (λ late. leb-true end now late)
    (λ early. absurd (never (is_due now repeat) (sym (ap (λ b. cond b (Some on.TimeoutDue)
    (cond (is_due now repeat) (Some on.RetransmitDue) None)) (ends_not early)) ∙ is)))
  where
    ends_not : nat_le end now ≡ false → is_due now ending ≡ false
    ends_not early = ap (is_due now) ends ∙ early

    never : (again : Bool) → cond again (Some on.RetransmitDue) None ≡ Some trigger → ⊥
    never true same =
        false≢true (ap is_timeout_due (same_trigger on.RetransmitDue trigger same) ∙ due)
    never false same = absurd cc

-- a timeout comes of a tick, at the end or later
by_end : (life : Life) (now end : ℕ) (input : Option Input) (trigger : Trigger)
    → life.context.timers.ending ≡ Some end → trigger_of (Some life) now input ≡ Some trigger
    → is_timeout_due trigger ≡ true → (input ≡ None) × (end ≤ now)
by_end life now end None trigger ends is due =
    (refl, due_end now end life.context.timers.ending life.context.timers.repeat trigger ends is due)
by_end life now end (Some (Receive id message reply_to)) trigger ends is due =
    let same = same_trigger (arrival_of message.start message.cseq.method) trigger is in
    absurd (false≢true (sym (arrives_plain message.start message.cseq.method).0
    ∙ (ap is_timeout_due same ∙ due)))
by_end life now end (Some (Start id call_id message to)) trigger ends is due =
    absurd (false≢true (ap is_timeout_due (same_trigger on.Start trigger is) ∙ due))
by_end life now end (Some (Answer id message)) trigger ends is due =
    absurd (false≢true (sym (answers_plain message.start trigger is).0 ∙ due))
by_end life now end (Some (Failed id)) trigger ends is due =
    absurd (false≢true (ap is_timeout_due (same_trigger on.Failed trigger is) ∙ due))
by_end life now end (Some Abandon) trigger ends is due = absurd cc

-- a failure comes of the report of one
by_failure : (life : Life) (now : ℕ) (input : Option Input) (trigger : Trigger)
    → trigger_of (Some life) now input ≡ Some trigger → is_failed_send trigger ≡ true
    → (id : Id) × (input ≡ Some (Failed id))
by_failure life now None trigger is failed =
    absurd (never (is_due now life.context.timers.ending) (is_due now life.context.timers.repeat) is)
  where
    never : (over again : Bool) → cond over (Some on.TimeoutDue)
        (cond again (Some on.RetransmitDue) None) ≡ Some trigger → ⊥
    never true again same =
        false≢true (ap is_failed_send (same_trigger on.TimeoutDue trigger same) ∙ failed)
    never false true same =
        false≢true (ap is_failed_send (same_trigger on.RetransmitDue trigger same) ∙ failed)
    never false false same = absurd cc
by_failure life now (Some (Receive id message reply_to)) trigger is failed =
    let same = same_trigger (arrival_of message.start message.cseq.method) trigger is in
    absurd (false≢true (sym (arrives_plain message.start message.cseq.method).1
    ∙ (ap is_failed_send same ∙ failed)))
by_failure life now (Some (Start id call_id message to)) trigger is failed =
    absurd (false≢true (ap is_failed_send (same_trigger on.Start trigger is) ∙ failed))
by_failure life now (Some (Answer id message)) trigger is failed =
    absurd (false≢true (sym (answers_plain message.start trigger is).1 ∙ failed))
by_failure life now (Some (Failed id)) trigger is failed = (id, refl)
by_failure life now (Some Abandon) trigger is failed = absurd cc

-- a message that comes up as an outcome is a response
by_message : (end now : ℕ) (id : Id) (message : Message) (reply_to : Addr) (line : StartLine)
    → is_outcome (kind_of line message reply_to) ≡ true
    → Causes end (record { moment = now; input = Some (Receive id message reply_to) })
    (kind_of line message reply_to)
by_message end now id message reply_to (start.Request uri) outcome =
    absurd (by_ack (is_same_method message.cseq.method (codes "ACK")) outcome)
  where
    by_ack : (ack : Bool)
        → is_outcome (cond ack (kind.Ack message) (kind.Request message reply_to)) ≡ true → ⊥
    by_ack true outcome = false≢true outcome
    by_ack false outcome = false≢true outcome
by_message end now id message reply_to (start.Response status reason) outcome =
    (id, reply_to, refl)

no_send : (k : Key) (to : Addr) (bytes : Option (List ℕ)) (raised : AnUp)
    → Among (option_to_list (option_map (send_out k to) bytes)) (out.Up raised) → ⊥
no_send k to None raised among = absurd among
no_send k to (Some bytes) raised (inl same) = absurd cc
no_send k to (Some bytes) raised (inr later) = absurd later

abbrev kind_in : AnUp → Out → UpKind
kind_in other (out.Up raised) = raised.kind
kind_in other (out.Send key to bytes) = other.kind
kind_in other (out.Dropped place why) = other.kind

abbrev at_moment : ℕ → Option Input → Timed Input
at_moment now input = record { moment = now; input = input }

module _ (k : Key) (life : Life) (now end : ℕ) (ends : life.context.timers.ending ≡ Some end)
    (trigger : Trigger) (raised : AnUp) (outcome : is_outcome raised.kind ≡ true) where
  message_causes : (input : Option Input)
      → Among (option_to_list (handed_out k life.context up.Message (arrived_in input))) (out.Up raised)
      → Causes end (at_moment now input) raised.kind
  unfolding handed_out
  message_causes None among = absurd among
  message_causes (Some (Receive id message reply_to)) (inl same) =
      let is : kind_of message.start message reply_to ≡ raised.kind = ap (kind_in raised) same in
      subst (Causes end (at_moment now (Some (Receive id message reply_to)))) is
      (by_message end now id message reply_to message.start (ap is_outcome is ∙ outcome))
  message_causes (Some (Receive id message reply_to)) (inr later) = absurd later
  message_causes (Some (Start id call_id message to)) among = absurd among
  message_causes (Some (Answer id message)) among = absurd among
  message_causes (Some (Failed id)) among = absurd among
  message_causes (Some Abandon) among = absurd among

  handed_causes : (input : Option Input) → trigger_of (Some life) now input ≡ Some trigger
      → (handed : UpAction) → handed_for handed trigger ≡ true
      → Among (option_to_list (handed_out k life.context handed (arrived_in input))) (out.Up raised)
      → Causes end (at_moment now input) raised.kind
  unfolding handed_out
  handed_causes input is up.Nothing fits among = absurd among
  handed_causes input is up.Message fits among = message_causes input among
  handed_causes input is up.Timeout fits (inl same) =
      subst (Causes end (at_moment now input)) (ap (kind_in raised) same)
      (by_end life now end input trigger ends is fits)
  handed_causes input is up.Timeout fits (inr later) = absurd later
  handed_causes input is up.Failed fits (inl same) =
      subst (Causes end (at_moment now input)) (ap (kind_in raised) same)
      (by_failure life now input trigger is fits)
  handed_causes input is up.Failed fits (inr later) = absurd later
  handed_causes input is up.NoTransaction fits (inl same) = absurd cc
  handed_causes input is up.NoTransaction fits (inr later) = absurd later

  row_causes : (input : Option Input) → trigger_of (Some life) now input ≡ Some trigger
      → (step : Step) → handed_for step.handed trigger ≡ true
      → Among (acted k now input (Some life.state) life.context step).1 (out.Up raised)
      → Causes end (at_moment now input) raised.kind
  unfolding outputs_of
  row_causes input is step fits among =
      let made = made_bytes life.context.request step.sent (message_in input) in
      ⊎_elim (λ handed. handed_causes input is step.handed fits handed)
      (λ sent. absurd (no_send k life.context.to (sent_bytes life.context.last step.sent made) raised
      sent))
      (among_either (option_to_list (handed_out k life.context step.handed (arrived_in input)))
      (option_to_list (option_map (send_out k life.context.to)
      (sent_bytes life.context.last step.sent made))) (out.Up raised) among)

input_causes : (k : Key) (life : Life) (timed : Timed Input) (end : ℕ)
    → life.context.timers.ending ≡ Some end → (raised : AnUp)
    → Among (stepped k (Some life) timed).1 (out.Up raised) → is_outcome raised.kind ≡ true
    → Causes end timed raised.kind
input_causes k life timed end ends raised among outcome =
    let G : Option Life × List Out → Type 0 = λ after. Among after.1 (out.Up raised)
    → Causes end timed raised.kind in
    by_input G k life timed (λ given none. absurd none)
    (λ goes. by_each G k life timed (trigger_of (Some life) timed.moment timed.input)
    (λ calm none. absurd none)
    (λ trigger is. row_causes k life timed.moment end ends trigger raised outcome timed.input is
    (rule (role_of k) life.state trigger)
    (passes hands_for refl (role_of k) life.state trigger)))
    among

module _ (k : Key) (Came : Timed Input → Type 0) where
  -- this is true of its own items
  abbrev pub OwnCame : Items → Type 0
  OwnCame items = AllByRecursion Came (own_items key_cmp items k)

  split_own : (item : Item Key (Timed Input)) (items : Items) (hit : Bool)
      → is_at (key_cmp item.key) k ≡ hit → OwnCame (item ∷ items)
      → (hit ≡ true → Came item.input) × OwnCame items
  split_own item items true is came =
      let kept = filter (λ (i : Item Key (Timed Input)). is_at (key_cmp i.key) k) items in
      let parts : AllByRecursion Came (item.input ∷ own_items key_cmp items k) =
      subst (λ b. AllByRecursion Came (map (λ (i : Item Key (Timed Input)). i.input)
      (cond b (item ∷ kept) kept))) is came in
      (λ hit. parts.0, parts.1)
  split_own item items false is came =
      let kept = filter (λ (i : Item Key (Timed Input)). is_at (key_cmp i.key) k) items in (
        λ hit. absurd (false≢true hit),
        subst (λ b. AllByRecursion Came (map (λ (i : Item Key (Timed Input)). i.input)
            (cond b (item ∷ kept) kept))) is came,
      )

module _ (k : Key) (client : role_of k ≡ role.Client) (id : Id) (call_id : List ℕ) (end : ℕ)
    (Came : Timed Input → Type 0) where
  -- It has no final response yet. Its timer F fires at this moment.
  pub record IsGoing (life : Life) : Type 0 where
    pub still : is_open (role_of k) life.state ≡ true
    pub id_is : life.context.id ≡ id
    pub call_is : life.context.call_id ≡ call_id
    pub timed : IsTimed (role_of k) life.state life.context
    pub asks : Asks (role_of k) end life.state life.context

  abbrev pub GoesOn : Option Life → Type 0
  GoesOn held = (life : Life) × (held ≡ Some life) × IsGoing life

  lacking : (life : Life) → IsGoing life → lack (role_of k) life.state ≡ 1
  lacking life going =
      ap (λ r. lack r life.state) client
      ∙ ap (λ b. cond {A = ℕ} b 1 0) (sym (open_lacks life.state)
      ∙ (ap (λ r. is_open r life.state) (sym client) ∙ going.still))

  -- what is left of it goes on, if it has no final response
  goes_on : (life : Life) (timed : Timed Input) → IsGoing life → (after : Option Life)
      → (stepped k (Some life) timed).0 ≡ after
      → 1 ≤ score (lack (role_of k)) (state_of after) → GoesOn after
  goes_on life timed going None is one = absurd (omega (arith, one))
  goes_on life timed going (Some left) is one = (
    left,
    refl,
    record {
      still = ap (λ r. is_open r left.state) client ∙ (open_lacks left.state
          ∙ one_lacks (lacks role.Client left.state)
          (subst (λ r. 1 ≤ lack r left.state) client one));
      id_is = sym kept.0 ∙ going.id_is;
      call_is = sym kept.1 ∙ going.call_is;
      timed = subst (HeldIn (IsTimed (role_of k))) is (stays k life timed going.timed);
      asks = subst (HeldIn (Asks (role_of k) end)) is (next_asks k end life timed going.asks);
    },
  )
    where
      no_none : Some life ≡ None → ⊥
      no_none same = absurd cc

      named : (before : Life) → Some life ≡ Some before → (before.context.id ≡ left.context.id)
          → (before.context.call_id ≡ left.context.call_id)
          → (life.context.id ≡ left.context.id) × (life.context.call_id ≡ left.context.call_id)
      named before same id_is call_is =
          let was : life ≡ before = cc in (
            ap (λ (l : Life). l.context.id) was ∙ id_is,
            ap (λ (l : Life). l.context.call_id) was ∙ call_is,
          )

      kept : (life.context.id ≡ left.context.id) × (life.context.call_id ≡ left.context.call_id)
      kept =
          ⊎_elim
          (λ kept. named kept.before kept.was kept.id kept.call)
          (λ begun. absurd (no_none begun.none))
          (lives_on k (Some life) timed.moment timed.input left
          (ap (λ (after : Option Life × List Out). after.0)
          (step_is k (Some life) timed.moment timed.input) ∙ is))

  asks_still : (life : Life) → IsGoing life → (lacks (role_of k) life.state
      && not (is_invite_client (role_of k) && pends life.state)) ≡ true
  asks_still life going =
      ap (λ r. lacks r life.state && not (is_invite_client r && pends life.state)) client
      ∙ asks_open life.state (ap (λ r. is_open r life.state) (sym client) ∙ going.still)

  abbrev pub Hands : List Out → Type 0
  Hands outs = HandsUp k id call_id end Came outs

  -- an input: it goes on, or hands up its outcome
  one_input : (life : Life) (timed : Timed Input) → is_abandon timed.input ≡ false → Came timed
      → IsGoing life
      → GoesOn (stepped k (Some life) timed).0 ⊎ Hands (stepped k (Some life) timed).1
  one_input life timed kept here going =
      let outs = (stepped k (Some life) timed).1 in
      let after = (stepped k (Some life) timed).0 in
      let enough = rest_enough k (ap is_client client) (Some life) (timed ∷ []) (kept, tt)
      (refl, tt) in
      ⊎_elim
      (λ none. inl (goes_on life timed going after refl
      (omega (arith, enough, lacking life going, none, ap (ups is_outcome) (append-nil outs)))))
      (λ one. let named = each_of (IsNamed k life.context.id life.context.call_id) outs
      (out.Up one.0) (all_named k life timed) one.1 in
      inr (record {
        up = one.0;
        among = one.1;
        key_is = named.0;
        id_is = named.1 ∙ going.id_is;
        call_is = named.2 ∙ going.call_is;
        outcome = one.2;
        cause = timed;
        came = here;
        causes = input_causes k life timed end (going.asks (asks_still life going)) one.0 one.1
            one.2;
      }))
      (some_up outs)

  -- ---- the tick at which timer F fires

  no_longer : (after : Option Life) → HeldIn (HasAsked (role_of k)) after → GoesOn after → ⊥
  no_longer after asked (life, is, going) =
      let asks = asks_still life going in
      let over : HasAsked (role_of k) life.state life.context =
      subst (HeldIn (HasAsked (role_of k))) is asked in
      false≢true (sym over ∙ asks)

  pub ends_at : (now : ℕ) → nat_le end now ≡ true → (life : Life) → IsGoing life
      → GoesOn (stepped k (Some life) (tick_at now)).0 → ⊥
  ends_at now late life going =
      no_longer (stepped k (Some life) (tick_at now)).0
      (tick_asked k end life now going.timed going.asks late)

  -- ---- the inputs of the first phase

  at_step : (life : Life) (now : ℕ) (input : Option Input)
      → is_abandon input ≡ false → Came (at_moment now input) → IsGoing life
      → GoesOn (step_at k (Some life) now input).0 ⊎ Hands (step_at k (Some life) now input).1
  at_step life now input kept here going =
      subst (λ (after : Option Life × List Out). GoesOn after.0 ⊎ Hands after.1)
      (sym (step_is k (Some life) now input))
      (one_input life (at_moment now input) kept here going)

  held_step : (held : Option Life) (now : ℕ) (input : Option Input)
      → is_abandon input ≡ false → Came (at_moment now input) → GoesOn held
      → GoesOn (step_at k held now input).0 ⊎ Hands (step_at k held now input).1
  held_step held now input kept here (life, is, going) =
      subst (λ h. GoesOn (step_at k h now input).0 ⊎ Hands (step_at k h now input).1)
      (sym is) (at_step life now input kept here going)

  pub ticked : (held : Option Life) (now : ℕ) → Came (tick_at now) → GoesOn held
      → GoesOn (step_at k held now None).0 ⊎ Hands (step_at k held now None).1
  ticked held now here goes = held_step held now None refl here goes

  pub ends_ticked : (held : Option Life) (now : ℕ) → nat_le end now ≡ true → GoesOn held
      → GoesOn (step_at k held now None).0 → ⊥
  ends_ticked held now late (life, is, going) goes =
      ends_at now late life going
      (subst GoesOn (ap (λ (after : Option Life × List Out). after.0)
      (step_is k (Some life) now None))
      (subst (λ h. GoesOn (step_at k h now None).0) is goes))

  no_abandon : (input : Option Input) → IsArrival input → is_abandon input ≡ false
  no_abandon (Some Abandon) arrives = absurd arrives
  no_abandon _ arrives = refl

  is_key : (q : Key) → is_at (key_cmp q) k ≡ true → q ≡ k
  is_key q hit = exact_at keys_total exact_keys q k hit

  one_item : (states : States) (item : Item Key (Timed Input)) (hit : Bool)
      → is_at (key_cmp item.key) k ≡ hit → IsArrival item.input.input
      → (hit ≡ true → Came item.input) → GoesOn (states k)
      → GoesOn (cond hit (next transaction_machine item.key (states item.key) item.input)
      (states k))
      ⊎ Hands (adds transaction_machine item.key (states item.key) item.input)
  one_item states item true hit arrives here goes =
      let same = is_key item.key hit in
      subst (λ q. GoesOn (next transaction_machine q (states q) item.input)
      ⊎ Hands (adds transaction_machine q (states q) item.input)) (sym same)
      (held_step (states k) item.input.moment item.input.input
      (no_abandon item.input.input arrives) (here refl) goes)
  one_item states item false miss arrives here goes = inl goes

  more_up : (outs more : List Out) → Hands outs → Hands (outs ++ more)
  more_up outs more hands = record {
    up = hands.up;
    among = among_left outs more (out.Up hands.up) hands.among;
    key_is = hands.key_is;
    id_is = hands.id_is;
    call_is = hands.call_is;
    outcome = hands.outcome;
    cause = hands.cause;
    came = hands.came;
    causes = hands.causes;
  }

  later_up : (outs more : List Out) → Hands more → Hands (outs ++ more)
  later_up outs more hands = record {
    up = hands.up;
    among = among_right outs more (out.Up hands.up) hands.among;
    key_is = hands.key_is;
    id_is = hands.id_is;
    call_is = hands.call_is;
    outcome = hands.outcome;
    cause = hands.cause;
    came = hands.came;
    causes = hands.causes;
  }

  pub items_then : (items : Items) (states : States) → AreArrivals items → OwnCame k Came items
      → GoesOn (states k)
      → GoesOn (states_then key_cmp transaction_machine states items k)
      ⊎ Hands (all_of (tells states items))
  items_then [] states arrive came goes = inl goes
  items_then (item ∷ items) states arrive came goes =
      let here = adds transaction_machine item.key (states item.key) item.input in
      let rest = all_of (tells (after_item states item) items) in
      let parts = split_own k Came item items (is_at (key_cmp item.key) k) refl came in
      ⊎_elim
      (λ on. ⊎_elim (λ still. inl still) (λ hands. inr (later_up here rest hands))
      (items_then items (after_item states item) arrive.1 parts.1 on))
      (λ hands. inr (more_up here rest hands))
      (one_item states item (is_at (key_cmp item.key) k) refl arrive.0 parts.0 goes)

  -- ---- the commands of the third phase

  is_plain : is_plain_client (role_of k) ≡ true
  is_plain = ap is_plain_client client

  quietly : (life : Life) (timed : Timed Input) → IsOrder timed.input
      → ups is_outcome (stepped k (Some life) timed).1 ≡ 0
  quietly life timed order =
      by_input (λ after. ups is_outcome after.1 ≡ 0) k life timed (λ given. refl)
      (λ on. by_each (λ after. ups is_outcome after.1 ≡ 0) k life timed
      (trigger_of (Some life) timed.moment timed.input) (λ none. refl)
      (λ trigger is.
      let step = rule (role_of k) life.state trigger in
      ups-row is_outcome finals true true outcomes_count k life.context step (Some life)
      timed.moment timed.input _ trigger is
      ∙ ap (λ b. cond {A = ℕ} b 1 0)
      (is_not (row_tells finals true true trigger step.handed)
      (implied (is_order trigger) _ (ordered_so life timed.moment timed.input order trigger is)
      (implied (is_plain_client (role_of k)) _ is_plain
      (passes quiet_order refl (role_of k) life.state trigger))))))

  one_order : (life : Life) (now : ℕ) (input : Input) → IsOrder (Some input) → IsGoing life
      → GoesOn (step_at k (Some life) now (Some input)).0
  one_order life now input order going =
      let timed : Timed Input = record { moment = now; input = Some input } in
      let outs = (stepped k (Some life) timed).1 in
      let enough = rest_enough k (ap is_client client) (Some life) (timed ∷ [])
      (no_abandon_order (Some input) order, tt) (refl, tt) in
      subst (λ (after : Option Life × List Out). GoesOn after.0)
      (sym (step_is k (Some life) now (Some input)))
      (goes_on life timed going (stepped k (Some life) timed).0 refl
      (omega (
        arith,
        enough,
        lacking life going,
        quietly life timed order,
        ap (ups is_outcome) (append-nil outs),
      )))

  pub goes_ordered : (now : ℕ) (held : Option Life) (id : Id) (c : Command) → (IsAbandonOf k c → ⊥)
      → GoesOn held → GoesOn (ordered k now held (id, c))
  goes_ordered now held own c kept (life, is, going) =
      ordered_keeps k now GoesOn held own c
      (λ hit. subst (λ h. GoesOn (step_at k h now (Some (asked_by own c))).0) (sym is)
      (by_command c kept hit)) (life, is, going)
    where
      by_command : (c : Command) → (IsAbandonOf k c → ⊥) → command_key c ≡ k
          → GoesOn (step_at k (Some life) now (Some (asked_by own c))).0
      by_command (order.Start key call_id message to) kept hit =
          one_order life now (Start own call_id message to) tt going
      by_command (order.Answer key message) kept hit =
          one_order life now (Answer own message) tt going
      by_command (order.Abandon key) kept hit = absurd (kept hit)

  pub goes_run : (now : ℕ) (cs : List (Id × Command)) (held : Option Life)
      → AllByRecursion (λ (c : Id × Command). IsAbandonOf k c.1 → ⊥) cs → GoesOn held
      → GoesOn (run k now held cs)
  goes_run now cs held kept goes =
      run_keeps k now GoesOn cs (λ held own c among. goes_ordered now held own c
      (each_of (λ (c : Id × Command). IsAbandonOf k c.1 → ⊥) cs (own, c) kept among)) held goes

-- ---- the round in which it is sent

module _ (k : Key) (client : role_of k ≡ role.Client) (now : ℕ) where
  -- a life that begins now, if there is one
  pub record IsNew (state : State) (context : Context) : Type 0 where
    pub still : lacks (role_of k) state ≡ true
    pub timed : IsTimed (role_of k) state context
    pub asks : Asks (role_of k) (now + LIFETIME) state context

  joined_in : (held : Option Life) → HeldIn (λ state context. lacks (role_of k) state ≡ true) held
      → HeldIn (IsTimed (role_of k)) held → HeldIn (Asks (role_of k) (now + LIFETIME)) held
      → HeldIn IsNew held
  joined_in None still timed asks = tt
  joined_in (Some life) still timed asks = record { still = still; timed = timed; asks = asks }

  plain : is_plain_client (role_of k) ≡ true
  plain = ap is_plain_client client

  new_at : (held : Option Life) (input : Input) → IsOrder (Some input)
      → HeldIn IsNew held
      → HeldIn IsNew (stepped k held (record { moment = now; input = Some input })).0
  new_at None input order new =
      let timed : Timed Input = record { moment = now; input = Some input } in
      joined_in (stepped k None timed).0
      (first_in (λ state context. lacks (role_of k) state ≡ true) k timed
      (λ trigger step is row context calm next into.
      entered_passes (lacks (role_of k)) None next step
      (implied (is_plain_client (role_of k)) _ plain
      (begins begins_open refl (role_of k) trigger step row)) into))
      (starts k timed) (first_asks k timed)
  new_at (Some life) input order new =
      let timed : Timed Input = record { moment = now; input = Some input } in
      joined_in (stepped k (Some life) timed).0
      (next_in (λ state context. lacks (role_of k) state ≡ true) k life timed new.still
      (λ trigger is next into.
      entered_passes (lacks (role_of k)) (Some life.state) next
      (rule (role_of k) life.state trigger)
      (implied (lacks (role_of k) life.state) _ new.still
      (implied (is_order trigger) _ (ordered_so life now (Some input) order trigger is)
      (implied (is_plain_client (role_of k)) _ plain
      (passes stays_open refl (role_of k) life.state trigger)))) into))
      (stays k life timed new.timed) (next_asks k (now + LIFETIME) life timed new.asks)

  abandoned : (held : Option Life) → HeldIn IsNew held
      → HeldIn IsNew (step_at k held now (Some Abandon)).0
  unfolding step_at
  abandoned held new = tt

  new_ordered : (held : Option Life) (c : Id × Command) → HeldIn IsNew held
      → HeldIn IsNew (ordered k now held c)
  new_ordered held (own, c) new =
      ordered_keeps k now (HeldIn IsNew) held own c (λ hit. by_command c) new
    where
      at : (input : Input) → IsOrder (Some input)
          → HeldIn IsNew (step_at k held now (Some input)).0
      at input order =
          subst (λ (after : Option Life × List Out). HeldIn IsNew after.0)
          (sym (step_is k held now (Some input))) (new_at held input order new)

      by_command : (c : Command) → HeldIn IsNew (step_at k held now (Some (asked_by own c))).0
      by_command (order.Start key call_id message to) = at (Start own call_id message to) tt
      by_command (order.Answer key message) = at (Answer own message) tt
      by_command (order.Abandon key) = abandoned held new

  pub new_run : (cs : List (Id × Command)) (held : Option Life) → HeldIn IsNew held
      → HeldIn IsNew (run k now held cs)
  new_run cs =
      run_keeps k now (HeldIn IsNew) cs (λ held own c among. new_ordered held (own, c))

  -- what arrives begins no client
  none_left : (o : Option Life) → ((life : Life) → o ≡ Some life → ⊥) → o ≡ None
  none_left None never = refl
  none_left (Some life) never = absurd (never life refl)

  serves_none : is_server (role_of k) ≡ false
  serves_none = ap is_server client

  pub none_at : (held : Option Life) (input : Option Input) (at : ℕ) → IsArrival input → held ≡ None
      → (step_at k held at input).0 ≡ None
  none_at held input at arrives none =
      none_left (step_at k held at input).0 (λ life is. ⊎_elim
      (λ kept. no_some kept.before (sym none ∙ kept.was))
      (λ begun. no_start k held input (step_at k held at input).1 life arrives serves_none begun)
      (lives_on k held at input life is))
    where
      no_some : (life : Life) → None ≡ Some life → ⊥
      no_some life same = absurd cc

  pub none_then : (items : Items) (states : States) → AreArrivals items → states k ≡ None
      → states_then key_cmp transaction_machine states items k ≡ None
  none_then items states arrive none =
      kept_then k (λ held. held ≡ None) (λ timed. IsArrival timed.input)
      (λ held timed. none_at held timed.input timed.moment) items states arrive none

  -- a life that is there after it
  pub going_new : (held : Option Life) (life : Life) (Came : Timed Input → Type 0)
      → held ≡ Some life → HeldIn IsNew held
      → IsGoing k client life.context.id life.context.call_id (now + LIFETIME) Came life
  going_new held life Came is new =
      let fresh : IsNew life.state life.context = subst (HeldIn IsNew) is new in
      record {
        still = ap (λ r. is_open r life.state) client ∙ (open_lacks life.state
            ∙ (ap (λ r. lacks r life.state) (sym client) ∙ fresh.still));
        id_is = refl;
        call_is = refl;
        timed = fresh.timed;
        asks = fresh.asks;
      }
