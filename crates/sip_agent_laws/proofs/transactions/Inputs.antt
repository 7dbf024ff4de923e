-- One input of a transaction, by the row of its trigger.
use Rattle.std.proofs.Common.{◌≡◌, ℕ, zero, suc, Bool, true, false, ◌&&◌, ◌||◌, List, [], ◌∷◌, refl, sym, ap, subst}
use Rattle.std.specs.Prelude.{Option, None, Some, is_some, slice_get, option_map, option_and_then, option_to_list, unwrap_or, cond}
use Rattle.std.specs.List.{list_all, AllByRecursion}
use Rattle.std.specs.Option.{option_or}
use Rattle.std.proofs.lemmas.Bool.{false≢true}
use Rattle.sip_message.specs.declared.key.Key.{Key}
use Rattle.sip_timers.specs.Queue.{is_due}
use Rattle.keyed_machine.specs.Machine.{Timed}
use Rattle.sip_transactions.specs.declared.input.Input.{Input}
use Rattle.sip_transactions.specs.declared.input.Input.TheVariants.{Receive, Start}
use Rattle.sip_transactions.specs.declared.life.Context.{Context}
use Rattle.sip_transactions.specs.declared.life.Life.{Life}
use Rattle.sip_transactions.specs.declared.output.Out.{Out}
use Rattle.sip_transactions.specs.declared.state.Role.{Role}
use Rattle.sip_transactions.specs.declared.state.Role.TheVariants.{InviteClient, Client, InviteServer, Server}
use Rattle.sip_transactions.specs.declared.state.State.{State}
use Rattle.sip_transactions.specs.declared.state.State.TheVariants.{Calling, Trying, Proceeding, Completed, Accepted, Confirmed}
use Rattle.sip_transactions.specs.declared.step.Due.{Due}
use Rattle.sip_transactions.specs.declared.step.Due.TheVariants.{Keep, Clear}
use Rattle.sip_transactions.specs.declared.step.Next.{Next}
use Rattle.sip_transactions.specs.declared.step.Next.TheVariants.{Same, Ended}
use Rattle.sip_transactions.specs.declared.step.Sent.TheVariants as send
use Rattle.sip_transactions.specs.declared.step.Step.{Step}
use Rattle.sip_transactions.specs.declared.step.UpAction.TheVariants as up
use Rattle.sip_transactions.specs.declared.trigger.Class.{Class}
use Rattle.sip_transactions.specs.declared.trigger.Class.TheVariants as class
use Rattle.sip_transactions.specs.declared.trigger.Trigger.{Trigger}
use Rattle.sip_transactions.specs.declared.trigger.Trigger.TheVariants as on
use Rattle.sip_transactions.specs.Rows.{row_of, rows_of}
use Rattle.sip_transactions.specs.Steps.Input.{is_abandon, message_in, role_of, trigger_of}
use Rattle.sip_transactions.specs.Steps.Life.{acted, acted_if, armed, begun, entered, given_up, last_of, life_after, life_in, stepped, stepped_by, step_for}
use Rattle.sip_transactions.specs.Steps.Output.{handed_out, made_bytes, outputs_of, send_out, sent_bytes, up_out}
use Rattle.sip_transactions.specs.Timers.{no_dues, rearmed}
use Rattle.sip_transactions.proofs.ClientRows.{none-made}
use Rattle.sip_transactions.proofs.LawSteps.{by_step}
use Rattle.sip_transactions.proofs.RowFacts.{and-left, and-right, by_test, row_passes, table_passes}
use Rattle.sip_agent_laws.proofs.agents.Lists.{both}
use Rattle.sip_message.specs.declared.addr.Addr.{Addr}
use Rattle.sip_message.specs.declared.message.Message.{Message}
use Rattle.sip_transactions.specs.declared.output.UpKind.{UpKind}
use Rattle.sip_transactions.specs.declared.output.DropReason.{DropReason}
use Rattle.sip_transactions.specs.declared.step.UpAction.{UpAction}
use Rattle.sip_transactions.specs.declared.output.Out.TheVariants as out
use Rattle.sip_transactions.specs.declared.output.UpKind.TheVariants as kind

-- ---- the tables

abbrev idle : Step
idle = record { next = Same; handed = up.Nothing; sent = send.Nothing; due = Keep }

-- what a transaction in a state does at a trigger; without a row, nothing
abbrev pub rule : Role → State → Trigger → Step
rule role state trigger = unwrap_or (row_of (rows_of role) (Some state) trigger) idle

-- a test of each rule
abbrev Test : Type 0
Test = Role → State → Trigger → Step → Bool

abbrev roles : List Role
roles = InviteClient ∷ Client ∷ InviteServer ∷ Server ∷ []

abbrev states : List State
states = Calling ∷ Trying ∷ Proceeding ∷ Completed ∷ Accepted ∷ Confirmed ∷ []

abbrev classes : List Class
classes = class.Trying ∷ class.Provisional ∷ class.Success ∷ class.Failure ∷ []

abbrev others : List Trigger
others =
    on.Start ∷ on.RetransmitDue ∷ on.TimeoutDue ∷ on.Failed ∷ on.Request ∷ on.Ack ∷ []

abbrev all_triggers : (Trigger → Bool) → Bool
all_triggers p = list_all p others && (list_all (λ c. p (on.Response c)) classes
    && list_all (λ c. p (on.Answer c)) classes)

abbrev pub all_pass : Test → Bool
all_pass test = list_all (λ role. list_all (λ state. all_triggers (λ trigger.
    test role state trigger (rule role state trigger))) states) roles

pass_at : {X : Type 0} (p : X → Bool) (xs : List X) (i : ℕ) (x : X) → list_all p xs ≡ true
    → slice_get xs i ≡ Some x → p x ≡ true
pass_at p [] i x all at = cc
pass_at p (y ∷ ys) zero x all at =
    let same : y ≡ x = cc in subst (λ z. p z ≡ true) same (and-left (p y) _ all)
pass_at p (y ∷ ys) (suc i) x all at = pass_at p ys i x (and-right (p y) _ all) at

at_role : (p : Role → Bool) → list_all p roles ≡ true → (role : Role) → p role ≡ true
at_role p all InviteClient = pass_at p roles 0 InviteClient all refl
at_role p all Client = pass_at p roles 1 Client all refl
at_role p all InviteServer = pass_at p roles 2 InviteServer all refl
at_role p all Server = pass_at p roles 3 Server all refl

at_state : (p : State → Bool) → list_all p states ≡ true → (state : State) → p state ≡ true
at_state p all Calling = pass_at p states 0 Calling all refl
at_state p all Trying = pass_at p states 1 Trying all refl
at_state p all Proceeding = pass_at p states 2 Proceeding all refl
at_state p all Completed = pass_at p states 3 Completed all refl
at_state p all Accepted = pass_at p states 4 Accepted all refl
at_state p all Confirmed = pass_at p states 5 Confirmed all refl

at_class : (p : Class → Bool) → list_all p classes ≡ true → (c : Class) → p c ≡ true
at_class p all class.Trying = pass_at p classes 0 class.Trying all refl
at_class p all class.Provisional = pass_at p classes 1 class.Provisional all refl
at_class p all class.Success = pass_at p classes 2 class.Success all refl
at_class p all class.Failure = pass_at p classes 3 class.Failure all refl

at_trigger : (p : Trigger → Bool) → all_triggers p ≡ true → (trigger : Trigger)
    → p trigger ≡ true
at_trigger p all (on.Response c) =
    at_class (λ c. p (on.Response c)) (and-left _ _ (and-right (list_all p others) _ all)) c
at_trigger p all (on.Answer c) =
    at_class (λ c. p (on.Answer c)) (and-right (list_all (λ c. p (on.Response c)) classes) _
    (and-right (list_all p others) _ all)) c
at_trigger p all on.Start = pass_at p others 0 on.Start (and-left _ _ all) refl
at_trigger p all on.RetransmitDue = pass_at p others 1 on.RetransmitDue (and-left _ _ all) refl
at_trigger p all on.TimeoutDue = pass_at p others 2 on.TimeoutDue (and-left _ _ all) refl
at_trigger p all on.Failed = pass_at p others 3 on.Failed (and-left _ _ all) refl
at_trigger p all on.Request = pass_at p others 4 on.Request (and-left _ _ all) refl
at_trigger p all on.Ack = pass_at p others 5 on.Ack (and-left _ _ all) refl

-- what passes for all of them passes for each
pub passes : (test : Test) → all_pass test ≡ true → (role : Role) (state : State)
    (trigger : Trigger) → test role state trigger (rule role state trigger) ≡ true
passes test all role state trigger =
    at_trigger (λ t. test role state t (rule role state t))
    (at_state (λ s. all_triggers (λ t. test role s t (rule role s t)))
    (at_role (λ r. list_all (λ s. all_triggers (λ t. test r s t (rule r s t))) states) all role)
    state) trigger

-- the trigger of a tick
pub tick_trigger : (P : Trigger → Type 0) → P on.TimeoutDue → P on.RetransmitDue
    → (held : Option Life) (now : ℕ) (trigger : Trigger) → trigger_of held now None ≡ Some trigger
    → P trigger
tick_trigger P end repeat None now trigger is = let no_tick : false ≡ true = cc in
    absurd (false≢true no_tick)
tick_trigger P end repeat (Some life) now trigger is =
    by_due (is_due now life.context.timers.ending) (is_due now life.context.timers.repeat) is
  where
    by_due : (e r : Bool) → cond e (Some on.TimeoutDue) (cond r (Some on.RetransmitDue) None)
        ≡ Some trigger → P trigger
    by_due true r is = let same : on.TimeoutDue ≡ trigger = cc in subst P same end
    by_due false true is = let same : on.RetransmitDue ≡ trigger = cc in subst P same repeat
    by_due false false is = let no_tick : false ≡ true = cc in absurd (false≢true no_tick)

-- ---- an input

-- what a row does that says nothing
silent : (key : Key) (now : ℕ) (input : Option Input) (life : Life) (next : Next) (due : Due)
    → acted key now input (Some life.state) life.context
    (record { next = next; handed = up.Nothing; sent = send.Nothing; due = due })
    ≡ (option_map (life_in (armed due now life.context)) (entered next (Some life.state)), [])
unfolding life_after outputs_of handed_out
silent key now input life next due =
    ap (λ (made : Option (List ℕ)). (
      option_map (life_in (armed due now (last_of made life.context)))
          (entered next (Some life.state)),
      option_to_list (option_map (send_out key life.context.to) made),
    )) (none-made life.context.request (message_in input))

by_found : (G : Option Life × List Out → Type 0) (key : Key) (life : Life) (timed : Timed Input)
    (found : Option Step)
    → G (acted key timed.moment timed.input (Some life.state) life.context (unwrap_or found idle))
    → G (stepped_by key (Some life) timed.moment timed.input found)
by_found G key life timed None acts =
    subst G (silent key timed.moment timed.input life Same Keep) acts
by_found G key life timed (Some step) acts = acts

-- by the trigger of an input, if it has one
abbrev pub By : (Option Life × List Out → Type 0) → Key → Life → Timed Input → Option Trigger → Type 0
By G key life timed None = G (Some life, [])
By G key life timed (Some trigger) =
    G (acted key timed.moment timed.input (Some life.state) life.context
    (rule (role_of key) life.state trigger))

by_trigger : (G : Option Life × List Out → Type 0) (key : Key) (life : Life) (timed : Timed Input)
    (trigger : Option Trigger) → By G key life timed trigger
    → G (stepped_by key (Some life) timed.moment timed.input
    (option_and_then (row_of (rows_of (role_of key)) (Some life.state)) trigger))
by_trigger G key life timed None by = by
by_trigger G key life timed (Some trigger) by =
    by_found G key life timed (row_of (rows_of (role_of key)) (Some life.state) trigger) by

pub by_each : (G : Option Life × List Out → Type 0) (key : Key) (life : Life) (timed : Timed Input)
    (trigger : Option Trigger) → (trigger ≡ None → G (Some life, []))
    → ((t : Trigger) → trigger ≡ Some t → By G key life timed (Some t))
    → By G key life timed trigger
by_each G key life timed None calm acts = calm refl
by_each G key life timed (Some trigger) calm acts = acts trigger refl

-- the user gives it up; or the input has a trigger, or none
pub by_input : (G : Option Life × List Out → Type 0) (key : Key) (life : Life) (timed : Timed Input)
    → (is_abandon timed.input ≡ true → G (None, []))
    → (is_abandon timed.input ≡ false
    → By G key life timed (trigger_of (Some life) timed.moment timed.input))
    → G (stepped key (Some life) timed)
unfolding stepped step_for
by_input G key life timed over by =
    let trigger = trigger_of (Some life) timed.moment timed.input in
    let step : Bool → Option Step = λ given. cond given (Some given_up)
    (option_and_then (row_of (rows_of (role_of key)) (Some life.state)) trigger) in
    let After : Bool → Type 0 =
    λ given. G (stepped_by key (Some life) timed.moment timed.input (step given)) in
    by_test (is_abandon timed.input)
    (λ given. subst After (sym given)
    (subst G (sym (silent key timed.moment timed.input life Ended Clear)) (over given)))
    (λ goes_on. subst After (sym goes_on) (by_trigger G key life timed trigger (by goes_on)))

-- ---- the life after it

-- a fact of the life that is held
abbrev pub HeldIn : (State → Context → Type 0) → Option Life → Type 0
HeldIn P None = Unit {0}
HeldIn P (Some life) = P life.state life.context

-- the context after a row that made these bytes
abbrev pub moved : Context → Step → ℕ → Option (List ℕ) → Context
moved context step now made = record context {
  last = option_or made context.last;
  timers = rearmed step.due now context.timers;
}

entered_in : (P : State → Context → Type 0) (context : Context) (state : Option State)
    → ((s : State) → state ≡ Some s → P s context) → HeldIn P (option_map (life_in context) state)
entered_in P context None holds = tt
entered_in P context (Some s) holds = holds s refl

pub after_row : (P : State → Context → Type 0) (state : Option State) (context : Context)
    (step : Step) (now : ℕ) (made : Option (List ℕ))
    → ((s : State) → entered step.next state ≡ Some s → P s (moved context step now made))
    → HeldIn P (life_after state context step now made)
unfolding life_after
after_row P state context step now None holds = entered_in P _ (entered step.next state) holds
after_row P state context step now (Some bytes) holds =
    entered_in P _ (entered step.next state) holds

-- what is true of the life before an input is true of the life after it, if each row keeps it
pub next_in : (P : State → Context → Type 0) (key : Key) (life : Life) (timed : Timed Input)
    → P life.state life.context
    → ((trigger : Trigger) → trigger_of (Some life) timed.moment timed.input ≡ Some trigger
    → (next : State) → entered (rule (role_of key) life.state trigger).next (Some life.state)
    ≡ Some next
    → P next (moved life.context (rule (role_of key) life.state trigger) timed.moment
    (made_bytes life.context.request (rule (role_of key) life.state trigger).sent
    (message_in timed.input))))
    → HeldIn P (stepped key (Some life) timed).0
next_in P key life timed stays goes =
    by_input (λ after. HeldIn P after.0) key life timed (λ given. tt)
    (λ goes_on. by_each (λ after. HeldIn P after.0) key life timed
    (trigger_of (Some life) timed.moment timed.input) (λ none. stays)
    (λ trigger is. after_row P (Some life.state) life.context
    (rule (role_of key) life.state trigger) timed.moment _ (goes trigger is)))

-- ---- the first input of a life

-- a test of each row of no state
abbrev pub all_begin : (Role → Trigger → Step → Bool) → Bool
all_begin test =
    list_all (λ role. table_passes (λ s t step. is_some s || test role t step) (rows_of role)) roles

pub begins : (test : Role → Trigger → Step → Bool) → all_begin test ≡ true → (role : Role)
    (trigger : Trigger) (step : Step) → row_of (rows_of role) None trigger ≡ Some step
    → test role trigger step ≡ true
begins test all role trigger step found =
    row_passes (λ s t step. is_some s || test role t step) (rows_of role)
    (at_role (λ r. table_passes (λ s t step. is_some s || test r t step) (rows_of r)) all role)
    None trigger step found

-- no timer runs when a life begins
abbrev Calm : Option Context → Type 0
Calm None = Unit {0}
Calm (Some context) = context.timers ≡ no_dues

begun_calm : (role : Role) (input : Option Input) → Calm (begun role input)
unfolding begun
begun_calm role (Some (Receive id message reply_to)) = refl
begun_calm role (Some (Start id call_id message to)) = refl
begun_calm role _ = tt

-- what is true of each life that a row can begin
abbrev Begins : (State → Context → Type 0) → Timed Input → Step → Type 0
Begins P timed step = (context : Context) → context.timers ≡ no_dues → (next : State)
    → entered step.next None ≡ Some next
    → P next (moved context step timed.moment
    (made_bytes context.request step.sent (message_in timed.input)))

by_begun : (P : State → Context → Type 0) (key : Key) (timed : Timed Input) (step : Step)
    (context : Option Context) → Calm context → Begins P timed step
    → HeldIn P (acted_if key timed.moment timed.input None context step).0
by_begun P key timed step None calm goes = tt
by_begun P key timed step (Some context) calm goes =
    after_row P None context step timed.moment _ (goes context calm)

-- the life that an input begins, by the row of its trigger
pub first_in : (P : State → Context → Type 0) (key : Key) (timed : Timed Input)
    → ((trigger : Trigger) (step : Step) → trigger_of None timed.moment timed.input ≡ Some trigger
    → row_of (rows_of (role_of key)) None trigger ≡ Some step → Begins P timed step)
    → HeldIn P (stepped key None timed).0
first_in P key timed goes =
    by_step (λ after. HeldIn P after.0) key None timed tt tt
    (λ step row. by_begun P key timed step (begun (role_of key) timed.input)
    (begun_calm (role_of key) timed.input) (goes row.trigger step row.triggered row.row))

-- ---- what a row gives

-- each output of a row passes, if what it hands up passes
module _ (P : Out → Type 0) (key : Key) (context : Context)
    (sends : (bytes : List ℕ) → P (out.Send key context.to bytes)) where
  sends_each : (bytes : Option (List ℕ))
      → AllByRecursion P (option_to_list (option_map (send_out key context.to) bytes))
  sends_each None = tt
  sends_each (Some bytes) = (sends bytes, tt)

  pub outputs_each : (step : Step) (made : Option (List ℕ)) (arrived : Option (Message × Addr))
      → AllByRecursion P (option_to_list (handed_out key context step.handed arrived))
      → AllByRecursion P (outputs_of key context step made arrived)
  unfolding outputs_of
  outputs_each step made arrived handed =
      both P (option_to_list (handed_out key context step.handed arrived)) _ handed
      (sends_each (sent_bytes context.last step.sent made))

  module _ (ups : (kind : UpKind) → P (up_out key context kind))
      (drops : (place : ℕ) (why : DropReason) → P (out.Dropped place why)) where
    handed_each : (handed : UpAction) (arrived : Option (Message × Addr))
        → AllByRecursion P (option_to_list (handed_out key context handed arrived))
    unfolding handed_out
    handed_each up.Nothing arrived = tt
    handed_each up.Message None = tt
    handed_each up.Message (Some arrived) = (ups _, tt)
    handed_each up.Timeout arrived = (ups kind.Timeout, tt)
    handed_each up.Failed arrived = (ups kind.Failed, tt)
    handed_each up.NoTransaction arrived = (drops context.id.place _, tt)

    -- whatever it is
    pub ups_each : (step : Step) (made : Option (List ℕ)) (arrived : Option (Message × Addr))
        → AllByRecursion P (outputs_of key context step made arrived)
    ups_each step made arrived = outputs_each step made arrived (handed_each step.handed arrived)
