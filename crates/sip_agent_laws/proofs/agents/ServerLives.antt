-- A server transaction without a final response stays so until one goes out, and then, after a 2xx,
-- until its end; and a request comes up from the one that it begins.
use Rattle.std.proofs.Common.{◌≡◌, ◌⊎◌, ⊎_elim, ℕ, ◌+◌, Bool, true, false, cond, ◌&&◌, ◌||◌, List, [], ◌∷◌, refl, sym, ap, ◌∙◌, subst}
use borrow.Author.Tests.{eqb-true}
use Rattle.std.specs.Prelude.{◌==◌, not, nat_le, nat_lt, is_none, Option, None, Some, codes, option_to_list, if◌then◌else◌}
use Rattle.std.specs.List.{AllByRecursion}
use Rattle.std.specs.Option.{option_map_or}
use Rattle.std.proofs.lemmas.Bool.{false≢true, and_right}
use Rattle.sip_message.specs.Key.{key_cmp, keys_total}
use Rattle.sip_message.specs.declared.addr.Addr.{Addr}
use Rattle.sip_message.specs.declared.id.Id.{Id}
use Rattle.sip_message.specs.declared.key.Key.{Key}
use Rattle.sip_message.specs.declared.message.Message.{Message}
use Rattle.sip_message.specs.declared.start_line.StartLine.{StartLine}
use Rattle.sip_message.specs.declared.start_line.StartLine.TheVariants as start
use Rattle.sip_timers.specs.declared.estimate.TheConstants.{LIFETIME}
use Rattle.keyed_machine.specs.declared.item.Item.{Item}
use Rattle.keyed_machine.specs.Machine.{Timed, adds, next}
use Rattle.keyed_machine.specs.Phase.{states_then, timed_items}
use Rattle.keyed_machine.proofs.Ordered.{is_at_itself}
use Rattle.sip_transactions.specs.declared.input.Input.{Input}
use Rattle.sip_transactions.specs.declared.input.Input.TheVariants.{Receive, Start, Answer, Failed, Abandon}
use Rattle.sip_transactions.specs.declared.life.Context.{Context}
use Rattle.sip_transactions.specs.declared.life.Life.{Life}
use Rattle.sip_transactions.specs.declared.output.Out.{Out}
use Rattle.sip_transactions.specs.declared.output.Out.TheVariants as out
use Rattle.sip_transactions.specs.declared.output.UpKind.{UpKind}
use Rattle.sip_transactions.specs.declared.output.UpKind.TheVariants as kind
use Rattle.sip_transactions.specs.declared.state.Role.{Role}
use Rattle.sip_transactions.specs.declared.state.Role.TheVariants.{InviteClient, InviteServer, Server}
use Rattle.sip_transactions.specs.declared.state.State.{State}
use Rattle.sip_transactions.specs.declared.state.State.TheVariants.{Completed, Accepted}
use Rattle.sip_transactions.specs.Dues.{Dues}
use Rattle.sip_transactions.specs.Timers.{rearmed}
use Rattle.sip_transactions.specs.declared.step.Due.{Due}
use Rattle.sip_transactions.specs.declared.step.Due.TheVariants.{Keep, Clear}
use Rattle.sip_transactions.specs.declared.step.Step.{Step}
use Rattle.sip_transactions.specs.declared.step.UpAction.{UpAction}
use Rattle.sip_transactions.specs.declared.step.UpAction.TheVariants as up
use Rattle.sip_transactions.specs.declared.trigger.Class.TheVariants as class
use Rattle.sip_transactions.specs.declared.trigger.Trigger.{Trigger}
use Rattle.sip_transactions.specs.declared.trigger.Trigger.TheVariants as on
use Rattle.sip_transactions.specs.Machine.{transaction_machine}
use Rattle.sip_transactions.specs.Rows.{rows_of}
use Rattle.sip_transactions.specs.Rules.Step.{step_at}
use Rattle.sip_transactions.specs.Steps.Input.{answer_of, arrival_of, arrived_in, class_of, is_abandon, is_same_method, role_of, trigger_of}
use Rattle.sip_transactions.specs.Steps.Life.{acted_if, begun, context_by, context_of, entered, keeps_request, state_of, stepped}
use Rattle.sip_transactions.specs.Steps.Output.{handed_out, kind_of, made_bytes, outputs_of}
use Rattle.sip_transactions.proofs.LawSteps.{RowFor, by_step, is_message, is_request}
use Rattle.sip_transactions.proofs.RowFacts.{and-left, and-right, row_passes, table_passes}
use Rattle.sip_transactions.proofs.Rules.{step_is}
use Rattle.sip_agent_laws.specs.Agents.Open.{is_open}
use Rattle.sip_agent_laws.specs.Transactions.Closing.{final_step, leaves_by}
use Rattle.sip_agent_laws.specs.Transactions.Outcomes.{is_provisional}
use Rattle.sip_agent_laws.specs.Transactions.Timers.{waits}
use Rattle.sip_agent_laws.proofs.agents.FirstPhase.{AreArrivals, IsArrival, Items, States, after_item, all_of, tells, kept_then}
use Rattle.sip_agent_laws.proofs.agents.Lists.{both}
use Rattle.sip_agent_laws.proofs.agents.OpenLives.{is_server}
use Rattle.sip_agent_laws.proofs.transactions.Closed.{After, HeldAs, held_as, lasts, led, step_lasts, time_at}
use Rattle.sip_agent_laws.proofs.transactions.Inputs.{HeldIn, all_pass, by_each, by_input, next_in, passes, rule, tick_trigger, outputs_each}
use Rattle.sip_agent_laws.proofs.transactions.Ticks.{Ends, EndsBy, Waiting, both_in}
use Rattle.sip_agent_laws.proofs.transactions.Timed.{can_be, entered_passes, enters, implied, stays}

-- ---- which inputs leave it open

abbrev is_final_answer : Trigger → Bool
is_final_answer (on.Answer class.Success) = true
is_final_answer (on.Answer class.Failure) = true
is_final_answer trigger = false

abbrev is_answer : Trigger → Bool
is_answer (on.Answer c) = true
is_answer trigger = false

-- a server without a final response
abbrev opened : Role → State → Bool
opened role state = is_server role && is_open role state

abbrev holds_open : Role → State → Trigger → Step → Bool
holds_open role state trigger step = not (opened role state) || (is_final_answer trigger
    || option_map_or (opened role) (entered step.next (Some state)) false)

-- all but a final response, and what gives it up
abbrev pub KeepsOpen : Option Input → Type 0
KeepsOpen (Some (Answer id message)) = is_provisional message.start ≡ true
KeepsOpen (Some Abandon) = ⊥
KeepsOpen input = Unit {0}

early_class : (trying provisional success : Bool) → provisional ≡ true
    → is_final_answer (on.Answer (if trying then class.Trying
    else if provisional then class.Provisional else if success then class.Success
    else class.Failure)) ≡ false
early_class true provisional success early = refl
early_class false true success early = refl
early_class false false success early = absurd (false≢true early)

no_answer : (ack : Bool) → is_final_answer (cond ack on.Ack on.Request) ≡ false
no_answer true = refl
no_answer false = refl

arrival_keeps : (line : StartLine) (method : List ℕ)
    → is_final_answer (arrival_of line method) ≡ false
arrival_keeps (start.Request uri) method = no_answer (is_same_method method (codes "ACK"))
arrival_keeps (start.Response status reason) method = refl

answer_keeps : (line : StartLine) (trigger : Trigger) → is_provisional line ≡ true
    → answer_of line ≡ Some trigger → is_final_answer trigger ≡ false
answer_keeps (start.Request uri) trigger early is = absurd (false≢true early)
answer_keeps (start.Response status reason) trigger early is =
    let same : on.Answer (class_of status) ≡ trigger = cc in
    sym (ap is_final_answer same)
    ∙ early_class (status == 100) (nat_lt status 200) (nat_lt status 300) early

keeps_so : (life : Life) (now : ℕ) (input : Option Input) → KeepsOpen input → (trigger : Trigger)
    → trigger_of (Some life) now input ≡ Some trigger → is_final_answer trigger ≡ false
keeps_so life now None keeps trigger is =
    tick_trigger (λ t. is_final_answer t ≡ false) refl refl (Some life) now trigger is
keeps_so life now (Some (Receive id message reply_to)) keeps trigger is =
    let same : arrival_of message.start message.cseq.method ≡ trigger = cc in
    sym (ap is_final_answer same) ∙ arrival_keeps message.start message.cseq.method
keeps_so life now (Some (Start id call_id message to)) keeps trigger is =
    let same : on.Start ≡ trigger = cc in sym (ap is_final_answer same)
keeps_so life now (Some (Answer id message)) keeps trigger is =
    answer_keeps message.start trigger keeps is
keeps_so life now (Some (Failed id)) keeps trigger is =
    let same : on.Failed ≡ trigger = cc in sym (ap is_final_answer same)
keeps_so life now (Some Abandon) keeps trigger is = absurd keeps

kept_open : (input : Option Input) → KeepsOpen input → is_abandon input ≡ true → ⊥
kept_open (Some Abandon) keeps given = keeps
kept_open _ keeps given = false≢true given

pub arrival_opens : (input : Option Input) → IsArrival input → KeepsOpen input
arrival_opens (Some (Start id call_id message to)) arrives = absurd arrives
arrival_opens (Some (Answer id message)) arrives = absurd arrives
arrival_opens (Some Abandon) arrives = absurd arrives
arrival_opens _ arrives = tt

-- ---- and which a 2xx outlasts

-- the state after a 2xx
abbrev is_lasting : Role → State → Bool
is_lasting InviteServer Accepted = true
is_lasting Server Completed = true
is_lasting role state = false

-- all but a tick at the end or later, and what gives it up
abbrev pub Outlasts : ℕ → ℕ → Option Input → Type 0
Outlasts end now None = nat_le end now ≡ false
Outlasts end now (Some Abandon) = ⊥
Outlasts end now (Some input) = Unit {0}

stays_by : (role : Role) (state : State) (end now : ℕ) (input : Option Input)
    → is_lasting role state ≡ true → Outlasts end now input
    → leaves_by role state end now input ≡ false
stays_by InviteServer Accepted end now None lasting outlasts = outlasts
stays_by InviteServer Accepted end now (Some (Receive id message reply_to)) lasting outlasts =
    and_right _ false refl
stays_by InviteServer Accepted end now (Some Abandon) lasting outlasts = absurd outlasts
stays_by InviteServer Accepted end now (Some input) lasting outlasts = refl
stays_by Server Completed end now None lasting outlasts = outlasts
stays_by Server Completed end now (Some (Receive id message reply_to)) lasting outlasts =
    and_right _ false refl
stays_by Server Completed end now (Some Abandon) lasting outlasts = absurd outlasts
stays_by Server Completed end now (Some input) lasting outlasts = refl
stays_by role state end now input lasting outlasts = absurd (false≢true lasting)

-- what is so of both is so after a 2xx
by_lasting : (P : Role → State → Type 0) → P InviteServer Accepted → P Server Completed
    → (role : Role) (state : State) → is_lasting role state ≡ true → P role state
by_lasting P invite other InviteServer Accepted lasting = invite
by_lasting P invite other Server Completed lasting = other
by_lasting P invite other role state lasting = absurd (false≢true lasting)

pub arrival_outlasts : (end now : ℕ) → nat_le end now ≡ false → (items : List (Item Key Input))
    → AreArrivals (timed_items now items)
    → AllByRecursion (λ (item : Item Key (Timed Input)).
    Outlasts end item.input.moment item.input.input) (timed_items now items)
arrival_outlasts end now early [] arrive = tt
arrival_outlasts end now early (item ∷ items) arrive =
    (one item.input arrive.0, arrival_outlasts end now early items arrive.1)
  where
    one : (input : Input) → IsArrival (Some input) → Outlasts end now (Some input)
    one (Receive id message reply_to) arrives = tt
    one (Start id call_id message to) arrives = absurd arrives
    one (Answer id message) arrives = absurd arrives
    one (Failed id) arrives = tt
    one Abandon arrives = absurd arrives

as_goes : {P Q : State → Context → Type 0} → ((state : State) (context : Context)
    → P state context → Q state context) → (held : Option Life) → HeldAs P held → HeldAs Q held
as_goes goes None holds = absurd holds
as_goes goes (Some life) holds = goes life.state life.context holds

some_entered : (test : State → Bool) (o : Option State) → option_map_or test o false ≡ true
    → (state : State) × (o ≡ Some state) × (test state ≡ true)
some_entered test None ok = absurd (false≢true ok)
some_entered test (Some state) ok = (state, refl, ok)

abbrev is_success : Trigger → Bool
is_success (on.Answer class.Success) = true
is_success trigger = false

abbrev final_lasts : Role → State → Trigger → Step → Bool
final_lasts role state trigger step = not (opened role state) || (not (is_success trigger)
    || (can_be role state
    && option_map_or (λ closed. is_lasting role closed && (time_at role closed == LIFETIME))
    (final_step role state trigger) false))

-- ---- provisional responses

-- a test of what a provisional response does
abbrev Early : (Role → State → Trigger → Step → Bool) → Role → State → Trigger → Step → Bool
Early test role state trigger step =
    is_final_answer trigger || (not (is_answer trigger) || test role state trigger step)

abbrev keeps_due : Due → Bool
keeps_due Keep = true
keeps_due Clear = true
keeps_due due = false

abbrev early_keeps : Role → State → Trigger → Step → Bool
early_keeps role state trigger step = keeps_due step.due

abbrev early_waits : Role → State → Trigger → Step → Bool
early_waits role state trigger step =
    not (waits role state) || enters (waits role) (Some state) step

keeps_by : (bound : ℕ) (due : Due) (now : ℕ) (dues : Dues) → keeps_due due ≡ true
    → EndsBy bound dues.ending → EndsBy bound (rearmed due now dues).ending
keeps_by bound Keep now dues keeps by = by
keeps_by bound Clear now dues keeps by = tt
keeps_by bound due now dues keeps by = absurd (false≢true keeps)

answer_so : (line : StartLine) (trigger : Trigger) → answer_of line ≡ Some trigger
    → is_answer trigger ≡ true
answer_so (start.Request uri) trigger is = absurd cc
answer_so (start.Response status reason) trigger is =
    let same : on.Answer (class_of status) ≡ trigger = cc in sym (ap is_answer same)

early_row : (test : Role → State → Trigger → Step → Bool) → all_pass (Early test) ≡ true
    → (role : Role) (state : State) (line : StartLine) (trigger : Trigger)
    → is_provisional line ≡ true → answer_of line ≡ Some trigger
    → test role state trigger (rule role state trigger) ≡ true
early_row test all role state line trigger early is =
    let step = rule role state trigger in
    let rest : (not (is_answer trigger) || test role state trigger step) ≡ true =
    sym (ap (λ b. b || (not (is_answer trigger) || test role state trigger step))
    (answer_keeps line trigger early is))
    ∙ passes (Early test) all role state trigger in
    implied (is_answer trigger) _ (answer_so line trigger is) rest

module _ (k : Key) where
  -- it has no final response, under this id and this Call-ID
  pub record IsOpen (call_id : List ℕ) (id : Id) (state : State) (context : Context) : Type 0 where
    pub still : opened (role_of k) state ≡ true
    pub id_is : context.id ≡ id
    pub call_is : context.call_id ≡ call_id

  abbrev pub Opens : List ℕ → Id → Option Life → Type 0
  Opens call_id id held = HeldAs (IsOpen call_id id) held

  -- its final response is a 2xx, and it ends at this moment
  pub record IsShut (end : ℕ) (state : State) (context : Context) : Type 0 where
    pub lasting : is_lasting (role_of k) state ≡ true
    pub ends : context.timers.ending ≡ Some end

  abbrev pub Shuts : ℕ → Option Life → Type 0
  Shuts end held = HeldAs (IsShut end) held

  pub never_both : (call_id : List ℕ) (id : Id) (end : ℕ) (held : Option Life)
      → Opens call_id id held → Shuts end held → ⊥
  never_both call_id id end None opens shuts = opens
  never_both call_id id end (Some life) opens shuts =
      let role = role_of k in
      let closed = by_lasting (λ r s. is_open r s ≡ false) refl refl role life.state shuts.lasting in
      false≢true (sym closed ∙ and-right (is_server role) _ opens.still)

  pub serves_open : (call_id : List ℕ) (id : Id) (held : Option Life) → Opens call_id id held
      → is_server (role_of k) ≡ true
  serves_open call_id id None opens = absurd opens
  serves_open call_id id (Some life) opens = and-left (is_server (role_of k)) _ opens.still

  pub serves_shut : (end : ℕ) (held : Option Life) → Shuts end held → is_server (role_of k) ≡ true
  serves_shut end None shuts = absurd shuts
  serves_shut end (Some life) shuts =
      by_lasting (λ r s. is_server r ≡ true) refl refl (role_of k) life.state shuts.lasting

  -- ---- one input

  pub open_on : (call_id : List ℕ) (id : Id) (held : Option Life) (now : ℕ) (input : Option Input)
      → KeepsOpen input → Opens call_id id held → Opens call_id id (step_at k held now input).0
  open_on call_id id None now input keeps opens = absurd opens
  open_on call_id id (Some life) now input keeps opens =
      let timed : Timed Input = record { moment = now; input = input } in
      let role = role_of k in
      subst (λ (after : Option Life × List Out). Opens call_id id after.0)
      (sym (step_is k (Some life) now input))
      (by_input (λ after. Opens call_id id after.0) k life timed
      (λ given. absurd (kept_open input keeps given))
      (λ goes_on. by_each (λ after. Opens call_id id after.0) k life timed
      (trigger_of (Some life) now input) (λ none. opens)
      (λ trigger is.
      let step = rule role life.state trigger in
      let ok = implied (opened role life.state) _ opens.still
      (passes holds_open refl role life.state trigger) in
      let into = some_entered (opened role) (entered step.next (Some life.state))
      (sym (ap (λ b. b || option_map_or (opened role) (entered step.next (Some life.state)) false)
      (keeps_so life now input keeps trigger is)) ∙ ok) in
      held_as (IsOpen call_id id) (Some life.state) life.context step now _ into.0 into.1
      (record { still = into.2; id_is = opens.id_is; call_is = opens.call_is }))))

  pub shut_on : (end : ℕ) (held : Option Life) (now : ℕ) (input : Option Input)
      → Outlasts end now input → Shuts end held → Shuts end (step_at k held now input).0
  shut_on end None now input outlasts shuts = absurd shuts
  shut_on end (Some life) now input outlasts shuts =
      let role = role_of k in
      let after = (stepped k (Some life) (record { moment = now; input = input })).0 in
      subst (λ (after : Option Life × List Out). Shuts end after.0)
      (sym (step_is k (Some life) now input))
      (as_goes (λ state context stands. record {
        lasting = ap (is_lasting role) stands.is ∙ shuts.lasting;
        ends = stands.ends;
      }) after
      (subst (λ b. After role life.state end b after)
      (stays_by role life.state end now input shuts.lasting outlasts)
      (step_lasts k life (record { moment = now; input = input }) end
      (by_lasting (λ r s. (can_be r s && lasts s) ≡ true) refl refl role life.state shuts.lasting)
      shuts.ends)))

  -- a 2xx goes out
  pub answered_on : (call_id : List ℕ) (id : Id) (held : Option Life) (now : ℕ) (own : Id)
      (message : Message) → answer_of message.start ≡ Some (on.Answer class.Success)
      → Opens call_id id held
      → Shuts (now + LIFETIME) (step_at k held now (Some (Answer own message))).0
  answered_on call_id id None now own message success opens = absurd opens
  answered_on call_id id (Some life) now own message success opens =
      let role = role_of k in
      let timed : Timed Input = record { moment = now; input = Some (Answer own message) } in
      let ok = implied (opened role life.state) _ opens.still
      (passes final_lasts refl role life.state (on.Answer class.Success)) in
      let closed = some_entered (λ s. is_lasting role s && (time_at role s == LIFETIME))
      (final_step role life.state (on.Answer class.Success)) (and-right (can_be role life.state) _ ok) in
      let there = led k life timed (on.Answer class.Success) closed.0
      (and-left (can_be role life.state) _ ok) success closed.1 in
      let time : time_at role closed.0 ≡ LIFETIME =
      eqb-true _ _ (and-right (is_lasting role closed.0) _ closed.2) in
      subst (λ (after : Option Life × List Out). Shuts (now + LIFETIME) after.0)
      (sym (step_is k (Some life) now (Some (Answer own message))))
      (as_goes (λ state context stands. record {
        lasting = ap (is_lasting role) stands.is ∙ and-left (is_lasting role closed.0) _ closed.2;
        ends = stands.ends ∙ ap (λ t. Some (now + t)) time;
      }) (stepped k (Some life) timed).0 there.1)

  -- ---- a response that is sent again sets no end

  ends_kept : (bound end : ℕ) (held : Option Life) → EndsBy bound (Some end) → Shuts end held
      → HeldIn (λ state context. EndsBy bound context.timers.ending) held
  ends_kept bound end None by shuts = absurd shuts
  ends_kept bound end (Some life) by shuts = subst (EndsBy bound) (sym shuts.ends) by

  pub ends_answered : (bound : ℕ) (held : Option Life) (now : ℕ) (own : Id) (message : Message)
      → (is_provisional message.start ≡ true) ⊎ ((end : ℕ) × Shuts end held)
      → HeldIn (Ends (role_of k) bound) held
      → HeldIn (Ends (role_of k) bound) (step_at k held now (Some (Answer own message))).0
  unfolding step_at
  ends_answered bound None now own message sent ends = tt
  ends_answered bound (Some life) now own message sent ends =
      let timed : Timed Input = record { moment = now; input = Some (Answer own message) } in
      let role = role_of k in
      let Held : Option Life → Type 0 = HeldIn (λ state context. EndsBy bound context.timers.ending) in
      subst (λ (after : Option Life × List Out). HeldIn (Ends role bound) after.0)
      (sym (step_is k (Some life) now (Some (Answer own message))))
      (both_in role bound (stepped k (Some life) timed).0 (stays k life timed ends.timed)
      (⊎_elim
      (λ early. next_in (λ state context. EndsBy bound context.timers.ending) k life timed ends.by
      (λ trigger is next into. keeps_by bound (rule role life.state trigger).due now
      life.context.timers
      (early_row early_keeps refl role life.state message.start trigger early is) ends.by))
      (λ shut. subst Held (ap (λ (after : Option Life × List Out). after.0)
      (step_is k (Some life) now (Some (Answer own message))))
      (ends_kept bound shut.0 (step_at k (Some life) now (Some (Answer own message))).0
      (subst (EndsBy bound) shut.1.ends ends.by)
      (shut_on shut.0 (Some life) now (Some (Answer own message)) tt shut.1))) sent))

  pub waits_answered : (held : Option Life) (now : ℕ) (own : Id) (message : Message)
      → (is_provisional message.start ≡ true) ⊎ ((end : ℕ) × Shuts end held)
      → HeldIn (Waiting (role_of k)) held
      → HeldIn (Waiting (role_of k)) (step_at k held now (Some (Answer own message))).0
  unfolding step_at
  waits_answered None now own message sent waiting = tt
  waits_answered (Some life) now own message sent waiting =
      let timed : Timed Input = record { moment = now; input = Some (Answer own message) } in
      let role = role_of k in
      subst (λ (after : Option Life × List Out). HeldIn (Waiting role) after.0)
      (sym (step_is k (Some life) now (Some (Answer own message))))
      (⊎_elim
      (λ early. next_in (Waiting role) k life timed waiting (λ trigger is next into.
      entered_passes (waits role) (Some life.state) next (rule role life.state trigger)
      (implied (waits role life.state) _ waiting
      (early_row early_waits refl role life.state message.start trigger early is)) into))
      (λ shut. absurd (false≢true (sym (by_lasting (λ r s. waits r s ≡ false) refl refl role
      life.state shut.1.lasting) ∙ waiting)))
      sent)

  pub open_then : (call_id : List ℕ) (id : Id) (items : Items) (states : States)
      → AreArrivals items → Opens call_id id (states k)
      → Opens call_id id (states_then key_cmp transaction_machine states items k)
  open_then call_id id items states arrive opens =
      kept_then k (Opens call_id id) (λ timed. IsArrival timed.input)
      (λ held timed arrives. open_on call_id id held timed.moment timed.input
      (arrival_opens timed.input arrives)) items states arrive opens

-- ---- a request comes up from a transaction that it begins

abbrev opens_at : Role → Option State → Trigger → Step → Bool
opens_at role state trigger step = not (is_request trigger && is_message step.handed)
    || (is_none state && option_map_or (opened role) (entered step.next None) false)

rows_open : (role : Role) → table_passes (opens_at role) (rows_of role) ≡ true
rows_open InviteClient = refl
rows_open _ = refl

-- under this key, id and Call-ID
abbrev KindOpens : (Key → List ℕ → Id → Type 0) → Key → Id → List ℕ → UpKind → Type 0
KindOpens Is key id call_id (kind.Request request reply_to) = Is key call_id id
KindOpens Is key id call_id its = Unit {0}

abbrev pub UpOpens : (Key → List ℕ → Id → Type 0) → Out → Type 0
UpOpens Is (out.Up up) = KindOpens Is up.key up.id up.call_id up.kind
UpOpens Is (out.Send key to bytes) = Unit {0}
UpOpens Is (out.Dropped place why) = Unit {0}

module _ (k : Key) (Is : Key → List ℕ → Id → Type 0) where
  abbrev FromRequest : Context → Trigger → UpAction → Type 0
  FromRequest context trigger handed =
      (is_request trigger && is_message handed) ≡ true → Is k context.call_id context.id

  message_opens : (context : Context) (message : Message) (reply_to : Addr) (line : StartLine)
      → FromRequest context (arrival_of line message.cseq.method) up.Message
      → KindOpens Is k context.id context.call_id (kind_of line message reply_to)
  message_opens context message reply_to (start.Response status reason) from = tt
  message_opens context message reply_to (start.Request uri) from =
      by_ack (is_same_method message.cseq.method (codes "ACK")) from
    where
      by_ack : (b : Bool) → FromRequest context (cond b on.Ack on.Request) up.Message
          → KindOpens Is k context.id context.call_id
          (cond b (kind.Ack message) (kind.Request message reply_to))
      by_ack true from = tt
      by_ack false from = from refl

  -- what came, if something came, is of this trigger
  abbrev FromArrived : Context → UpAction → Option (Message × Addr) → Type 0
  FromArrived context handed None = Unit {0}
  FromArrived context handed (Some (message, reply_to)) =
      FromRequest context (arrival_of message.start message.cseq.method) handed

  handed_opens : (context : Context) (handed : UpAction) (arrived : Option (Message × Addr))
      → FromArrived context handed arrived
      → AllByRecursion (UpOpens Is) (option_to_list (handed_out k context handed arrived))
  unfolding handed_out
  handed_opens context up.Nothing arrived from = tt
  handed_opens context up.Message None from = tt
  handed_opens context up.Message (Some (message, reply_to)) from =
      (message_opens context message reply_to message.start from, tt)
  handed_opens context _ arrived from = (tt, tt)

  arrived_so : (context : Context) (handed : UpAction) (held : Option Life) (now : ℕ)
      (input : Option Input) (trigger : Trigger) → trigger_of held now input ≡ Some trigger
      → FromRequest context trigger handed → FromArrived context handed (arrived_in input)
  arrived_so context handed held now (Some (Receive id message reply_to)) trigger is from =
      let same : arrival_of message.start message.cseq.method ≡ trigger = cc in
      subst (λ t. FromRequest context t handed) (sym same) from
  arrived_so context handed held now _ trigger is from = tt

  outputs_open : (context : Context) (step : Step) (made : Option (List ℕ)) (held : Option Life)
      (now : ℕ) (input : Option Input) (trigger : Trigger)
      → trigger_of held now input ≡ Some trigger → FromRequest context trigger step.handed
      → AllByRecursion (UpOpens Is) (outputs_of k context step made (arrived_in input))
  outputs_open context step made held now input trigger is from =
      outputs_each (UpOpens Is) k context (λ bytes. tt) step made (arrived_in input)
      (handed_opens context step.handed (arrived_in input)
      (arrived_so context step.handed held now input trigger is from))

module _ (k : Key) where
  abbrev IsThere : Option Life → Key → List ℕ → Id → Type 0
  IsThere after key call_id id = (key ≡ k) × Opens k call_id id after

  abbrev TellsOpen : Option Life × List Out → Type 0
  TellsOpen after = AllByRecursion (UpOpens (IsThere after.0)) after.1

  none_tells : (now : ℕ) (input : Option Input) (step : Step)
      → RowFor k None (record { moment = now; input = input }) step
      → TellsOpen (acted_if k now input None (begun (role_of k) input) step)
  unfolding begun
  none_tells now (Some (Start id call_id message to)) step row =
      let context = context_by id call_id to (cond (keeps_request (role_of k)) (Some message) None) in
      let same : on.Start ≡ row.trigger = cc in
      outputs_open k _ context step _ None now (Some (Start id call_id message to)) row.trigger
      row.triggered
      (λ is. absurd (false≢true (ap is_request same ∙ and-left (is_request row.trigger) _ is)))
  none_tells now (Some (Receive id message reply_to)) step row =
      let role = role_of k in
      let context = context_by id message.call_id reply_to None in
      let made = made_bytes context.request step.sent (Some message) in
      outputs_open k _ context step made None now (Some (Receive id message reply_to)) row.trigger
      row.triggered
      (λ is.
      let ok = implied (is_request row.trigger && is_message step.handed) _ is
      (row_passes (opens_at role) (rows_of role) (rows_open role) None row.trigger step row.row) in
      let into = some_entered (opened role) (entered step.next None) ok in (
        refl,
        held_as (IsOpen k context.call_id context.id) None context step now made into.0 into.1
            (record { still = into.2; id_is = refl; call_is = refl }),
      ))
  none_tells now _ step row = tt

  row_tells : (held : Option Life) (now : ℕ) (input : Option Input) (step : Step)
      → RowFor k held (record { moment = now; input = input }) step
      → TellsOpen (acted_if k now input (state_of held) (context_of (role_of k) held input) step)
  row_tells None now input step row = none_tells now input step row
  row_tells (Some life) now input step row =
      let role = role_of k in
      outputs_open k _ life.context step _ (Some life) now input row.trigger row.triggered
      (λ is. absurd (false≢true
      (implied (is_request row.trigger && is_message step.handed) _ is
      (row_passes (opens_at role) (rows_of role) (rows_open role) (Some life.state) row.trigger step
      row.row))))

  pub tells_open : (held : Option Life) (now : ℕ) (input : Option Input)
      → AllByRecursion (UpOpens (IsThere (step_at k held now input).0))
      (step_at k held now input).1
  tells_open held now input =
      subst TellsOpen (sym (step_is k held now input))
      (by_step TellsOpen k held (record { moment = now; input = input }) tt tt
      (row_tells held now input))

-- ---- all that come up in a phase

abbrev pub AreOpen : States → Key → List ℕ → Id → Type 0
AreOpen states key call_id id = Opens key call_id id (states key)

kind_goes : (Is To : Key → List ℕ → Id → Type 0)
    → ((key : Key) (call_id : List ℕ) (id : Id) → Is key call_id id → To key call_id id)
    → (key : Key) (id : Id) (call_id : List ℕ) (its : UpKind) → KindOpens Is key id call_id its
    → KindOpens To key id call_id its
kind_goes Is To goes key id call_id (kind.Request request reply_to) is = goes key call_id id is
kind_goes Is To goes key id call_id _ is = tt

ups_go : (Is To : Key → List ℕ → Id → Type 0)
    → ((key : Key) (call_id : List ℕ) (id : Id) → Is key call_id id → To key call_id id)
    → (outs : List Out) → AllByRecursion (UpOpens Is) outs → AllByRecursion (UpOpens To) outs
ups_go Is To goes [] all = tt
ups_go Is To goes (out.Up up ∷ outs) all =
    (kind_goes Is To goes up.key up.id up.call_id up.kind all.0, ups_go Is To goes outs all.1)
ups_go Is To goes (out.Send key to bytes ∷ outs) all = (tt, ups_go Is To goes outs all.1)
ups_go Is To goes (out.Dropped place why ∷ outs) all = (tt, ups_go Is To goes outs all.1)

pub ups_open : (items : Items) (states : States) → AreArrivals items
    → AllByRecursion (UpOpens (AreOpen (states_then key_cmp transaction_machine states items)))
    (all_of (tells states items))
ups_open [] states arrive = tt
ups_open (item ∷ items) states arrive =
    let here = adds transaction_machine item.key (states item.key) item.input in
    let states_after = after_item states item in
    let last = states_then key_cmp transaction_machine states_after items in
    let after : Option Life = next transaction_machine item.key (states item.key) item.input in
    let moved : states_after item.key ≡ after =
    ap (λ b. cond b after (states item.key)) (is_at_itself keys_total item.key) in
    both (UpOpens (AreOpen last)) here (all_of (tells states_after items))
    (ups_go (IsThere item.key after) (AreOpen last) (λ key call_id id there.
    subst (λ q. Opens q call_id id (last q)) (sym there.0)
    (open_then item.key call_id id items states_after arrive.1
    (subst (Opens item.key call_id id) (sym moved) there.1))) here
    (tells_open item.key (states item.key) item.input.moment item.input.input))
    (ups_open items states_after arrive.1)
