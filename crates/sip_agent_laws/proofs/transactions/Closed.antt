-- After its final response a transaction is held for its time.
use Rattle.std.proofs.Common.{arith, ◌≡◌, ℕ, ◌+◌, Bool, true, false, ◌&&◌, ◌||◌, List, [], ◌∷◌, ◌++◌, refl, sym, ◌∙◌, ap, subst, codes}
use Rattle.std.specs.Prelude.{Option, None, Some, cond, is_none, nat_le, not, ◌==◌, slice_get, unwrap_or, option_map}
use Rattle.std.specs.Option.{option_map_or}
use Rattle.std.proofs.lemmas.Bool.{false≢true, or_parts, and_from}
use borrow.Author.Tests.{eqb-true}
use Rattle.std.proofs.lemmas.List.Sums.{sum_by-append}
use Rattle.sip_message.specs.declared.key.Key.{Key}
use Rattle.sip_message.specs.declared.key.Key.TheVariants as key
use Rattle.sip_message.specs.declared.start_line.StartLine.{StartLine}
use Rattle.sip_message.specs.declared.start_line.StartLine.TheVariants as start
use Rattle.sip_timers.specs.declared.estimate.TheConstants.{LIFETIME}
use Rattle.sip_timers.specs.Queue.{is_due}
use Rattle.keyed_machine.specs.Machine.{LifeIn, Timed, outputs_from, state_from, state_left}
use Rattle.keyed_machine.proofs.Lives.{IsWithinLife, is_within}
use Rattle.keyed_machine.proofs.Phases.{state_from-append}
use Rattle.sip_transactions.specs.declared.input.Input.{Input}
use Rattle.sip_transactions.specs.declared.input.Input.TheVariants.{Receive, Start, Answer, Failed, Abandon}
use Rattle.sip_transactions.specs.declared.life.Context.{Context}
use Rattle.sip_transactions.specs.declared.life.Life.{Life}
use Rattle.sip_transactions.specs.declared.output.Out.{Out}
use Rattle.sip_transactions.specs.declared.state.Role.{Role}
use Rattle.sip_transactions.specs.declared.state.Role.TheVariants.{InviteClient, Client, InviteServer}
use Rattle.sip_transactions.specs.declared.state.State.{State}
use Rattle.sip_transactions.specs.declared.state.State.TheVariants.{Calling, Trying, Proceeding, Completed, Accepted, Confirmed}
use Rattle.sip_transactions.specs.declared.step.Due.{Due}
use Rattle.sip_transactions.specs.declared.step.Due.TheVariants.{Ending, Both}
use Rattle.sip_transactions.specs.declared.step.Next.{Next}
use Rattle.sip_transactions.specs.declared.step.Next.TheVariants.{Same, Ended, Become}
use Rattle.sip_transactions.specs.declared.step.Step.{Step}
use Rattle.sip_transactions.specs.declared.trigger.Class.{Class}
use Rattle.sip_transactions.specs.declared.trigger.Trigger.{Trigger}
use Rattle.sip_transactions.specs.declared.trigger.Trigger.TheVariants as on
use Rattle.sip_transactions.specs.Dues.{Dues}
use Rattle.sip_transactions.specs.Rows.{state_place}
use Rattle.sip_transactions.specs.Steps.Input.{answer_of, arrival_of, is_abandon, is_same_method, message_in, role_of, trigger_of}
use Rattle.sip_transactions.specs.Steps.Life.{acted_if, begun, entered, life_after, life_in, state_of, step_machine, stepped}
use Rattle.sip_transactions.specs.Steps.Output.{made_bytes}
use Rattle.sip_transactions.specs.Timers.{rearmed}
use Rattle.sip_transactions.proofs.Firings.{is_client}
use Rattle.sip_transactions.proofs.LawSteps.{by_step}
use Rattle.sip_transactions.proofs.RowFacts.{and-left, and-right, by_test, not_both}
use Rattle.sip_agent_laws.specs.Transactions.Outcomes.{NoEarlyTimeout, is_timeout, is_up, ups}
use Rattle.sip_agent_laws.specs.Transactions.Timers.{has_tick_from}
use Rattle.sip_agent_laws.specs.Transactions.Closing.{ClosedInTime, Closes, RejectedInTime, awaits_ack, closing_time, final_step, has_acked, has_leave, is_ack, is_gone_or_confirmed, leaves_by}
use Rattle.sip_agent_laws.proofs.transactions.Ends.{Asks, asks, ending-kept, first_asks, is_not, keeps_end, next_asks}
use Rattle.sip_agent_laws.proofs.transactions.Inputs.{By, HeldIn, after_row, begins, by_each, by_input, moved, next_in, passes, rule}
use Rattle.sip_agent_laws.proofs.transactions.Told.{Counts, tells, ups-row}
use Rattle.sip_agent_laws.proofs.transactions.Ticks.{is_end}
use Rattle.sip_agent_laws.proofs.transactions.Timed.{always_within, can_be, enters, entered_passes, implied, is_timed, reached}

none_more : {a b : ℕ} → a ≡ 0 → b ≡ 0 → a + b ≡ 0
none_more one other = omega arith

-- ---- what leaves a state

-- a state that time ends
abbrev pub lasts : State → Bool
lasts Completed = true
lasts Accepted = true
lasts Confirmed = true
lasts state = false

abbrev is_confirmed : State → Bool
is_confirmed Confirmed = true
is_confirmed state = false

abbrev exits : Role → State → Trigger → Bool
exits role state on.TimeoutDue = true
exits role state on.Failed = has_acked role state
exits role state on.Ack = awaits_ack role state
exits role state on.Start = false
exits role state on.RetransmitDue = false
exits role state on.Request = false
exits role state (on.Response class) = false
exits role state (on.Answer class) = false

abbrev exits_by : Role → State → Option Trigger → Bool
exits_by role state None = false
exits_by role state (Some trigger) = exits role state trigger

by_arrival : (role : Role) (state : State) (line : StartLine) (method : List ℕ)
    → exits role state (arrival_of line method)
    ≡ (is_ack (arrival_of line method) && awaits_ack role state)
by_arrival role state (start.Response status reason) method = refl
by_arrival role state (start.Request uri) method =
    by_test (is_same_method method (codes "ACK"))
    (λ ack. subst Same (sym ack) refl) (λ other. subst Same (sym other) refl)
  where
    Same : Bool → Type 0
    Same b = exits role state (cond b on.Ack on.Request)
        ≡ (is_ack (cond b on.Ack on.Request) && awaits_ack role state)

by_answer : (role : Role) (state : State) (line : StartLine)
    → exits_by role state (answer_of line) ≡ false
by_answer role state (start.Request uri) = refl
by_answer role state (start.Response status reason) = refl

by_tick : (role : Role) (state : State) (ending repeat : Bool)
    → exits_by role state (cond ending (Some on.TimeoutDue)
    (cond repeat (Some on.RetransmitDue) None)) ≡ ending
by_tick role state true repeat = refl
by_tick role state false true = refl
by_tick role state false false = refl

exits_is : (role : Role) (state : State) (life : Life) (end now : ℕ) (input : Option Input)
    → life.context.timers.ending ≡ Some end → is_abandon input ≡ false
    → exits_by role state (trigger_of (Some life) now input) ≡ leaves_by role state end now input
exits_is role state life end now None ends kept =
    by_tick role state (is_due now life.context.timers.ending)
    (is_due now life.context.timers.repeat) ∙ ap (is_due now) ends
exits_is role state life end now (Some (Receive id message reply_to)) ends kept =
    by_arrival role state message.start message.cseq.method
exits_is role state life end now (Some (Start id call_id message to)) ends kept = refl
exits_is role state life end now (Some (Answer id message)) ends kept =
    by_answer role state message.start
exits_is role state life end now (Some (Failed id)) ends kept = refl
exits_is role state life end now (Some Abandon) ends kept = absurd (false≢true (sym kept))

abandon_leaves : (role : Role) (state : State) (end now : ℕ) (input : Option Input)
    → is_abandon input ≡ true → leaves_by role state end now input ≡ true
abandon_leaves role state end now (Some Abandon) given = refl
abandon_leaves role state end now None given = absurd (false≢true given)
abandon_leaves role state end now (Some input) given = absurd (false≢true given)

-- ---- an input of a state that lasts

-- a fact of the life that is held, and one is
abbrev pub HeldAs : (State → Context → Type 0) → Option Life → Type 0
HeldAs P None = ⊥
HeldAs P (Some life) = P life.state life.context

-- the state, and its end
pub record Stands (at : State) (end : ℕ) (state : State) (context : Context) : Type 0 where
  pub is : state ≡ at
  pub ends : context.timers.ending ≡ Some end

-- gone; or an ACK came that was waited for
abbrev Left : Role → State → State → Context → Type 0
Left role at state context = (awaits_ack role at && is_confirmed state) ≡ true

abbrev pub After : Role → State → ℕ → Bool → Option Life → Type 0
After role at end true held = HeldIn (Left role at) held
After role at end false held = HeldAs (Stands at end) held

abbrev is_same : Next → Bool
is_same Same = true
is_same Ended = false
is_same (Become state) = false

abbrev lasts_on : Role → State → Trigger → Step → Bool
lasts_on role state trigger step = not (can_be role state && lasts state)
    || cond (exits role state trigger)
    (enters (λ next. awaits_ack role state && is_confirmed next) (Some state) step)
    (is_same step.next && keeps_end step.due)

same_next : (next : Next) (state : State) → is_same next ≡ true
    → entered next (Some state) ≡ Some state
same_next Same state same = refl
same_next Ended state same = absurd (false≢true same)
same_next (Become new) state same = absurd (false≢true same)

pub held_as : (P : State → Context → Type 0) (state : Option State) (context : Context) (step : Step)
    (now : ℕ) (made : Option (List ℕ)) (next : State) → entered step.next state ≡ Some next
    → P next (moved context step now made) → HeldAs P (life_after state context step now made)
unfolding life_after
held_as P state context step now None next is holds =
    subst (λ o. HeldAs P (option_map (life_in (moved context step now None)) o)) (sym is) holds
held_as P state context step now (Some bytes) next is holds =
    subst (λ o. HeldAs P (option_map (life_in (moved context step now (Some bytes))) o)) (sym is)
    holds

row_lasts : (role : Role) (life : Life) (end now : ℕ) (made : Option (List ℕ)) (trigger : Trigger)
    → (can_be role life.state && lasts life.state) ≡ true
    → life.context.timers.ending ≡ Some end
    → After role life.state end (exits role life.state trigger)
    (life_after (Some life.state) life.context (rule role life.state trigger) now made)
row_lasts role life end now made trigger lasting ends =
    let state = life.state in
    let step = rule role state trigger in
    let ok = implied (can_be role state && lasts state) _ lasting
    (passes lasts_on refl role state trigger) in
    let Passes : Bool → Type 0 = λ exit. cond exit
    (enters (λ next. awaits_ack role state && is_confirmed next) (Some state) step)
    (is_same step.next && keeps_end step.due) ≡ true in
    by_test (exits role state trigger)
    (λ exit. subst (λ b. After role state end b
    (life_after (Some state) life.context step now made)) (sym exit)
    (after_row (Left role state) (Some state) life.context step now made (λ next into.
    entered_passes (λ n. awaits_ack role state && is_confirmed n) (Some state) next step
    (subst Passes exit ok) into)))
    (λ stays. subst (λ b. After role state end b
    (life_after (Some state) life.context step now made)) (sym stays)
    (let both = subst Passes stays ok in
    held_as (Stands state end) (Some state) life.context step now made state
    (same_next step.next state (and-left (is_same step.next) _ both)) (record {
      is = refl;
      ends = ending-kept step.due now life.context.timers (and-right (is_same step.next) _ both)
          ∙ ends;
    })))

-- an input leaves it, or it stands
pub step_lasts : (key : Key) (life : Life) (timed : Timed Input) (end : ℕ)
    → (can_be (role_of key) life.state && lasts life.state) ≡ true
    → life.context.timers.ending ≡ Some end
    → After (role_of key) life.state end
    (leaves_by (role_of key) life.state end timed.moment timed.input)
    (stepped key (Some life) timed).0
step_lasts key life timed end lasting ends =
    let role = role_of key in
    let leaves = leaves_by role life.state end timed.moment timed.input in
    let trigger = trigger_of (Some life) timed.moment timed.input in
    let G : Option Life × List Out → Type 0 = λ after. After role life.state end leaves after.0 in
    by_input G key life timed
    (λ given. subst (λ b. After role life.state end b None)
    (sym (abandon_leaves role life.state end timed.moment timed.input given)) tt)
    (λ kept. let is = exits_is role life.state life end timed.moment timed.input ends kept in
    by_each G key life timed trigger
    (λ none. subst (λ b. After role life.state end b (Some life))
    (sym (ap (exits_by role life.state) none) ∙ is) (record { is = refl; ends = ends }))
    (λ t fires. let step = rule role life.state t in
    let made = made_bytes life.context.request step.sent (message_in timed.input) in
    subst (λ b. After role life.state end b
    (life_after (Some life.state) life.context step timed.moment made))
    (sym (ap (exits_by role life.state) fires) ∙ is)
    (row_lasts role life end timed.moment made t lasting ends)))

-- ---- the inputs that come later

-- once an ACK came, that stays so
abbrev confirmed_on : Role → State → Trigger → Step → Bool
confirmed_on role state trigger step =
    not (is_confirmed state) || enters is_confirmed (Some state) step

next_left : (key : Key) (at : State) (life : Life) (timed : Timed Input)
    → Left (role_of key) at life.state life.context
    → HeldIn (Left (role_of key) at) (stepped key (Some life) timed).0
next_left key at life timed left =
    let role = role_of key in
    next_in (Left role at) key life timed left (λ trigger is next into.
    and_from (awaits_ack role at) (is_confirmed next) (and-left (awaits_ack role at) _ left)
    (entered_passes is_confirmed (Some life.state) next (rule role life.state trigger)
    (implied (is_confirmed life.state) _ (and-right (awaits_ack role at) _ left)
    (passes confirmed_on refl role life.state trigger)) into))

stood : (key : Key) (at : State) (end : ℕ) → (can_be (role_of key) at && lasts at) ≡ true
    → (held : Option Life) (inputs : List (Timed Input)) → IsWithinLife step_machine key held inputs
    → HeldAs (Stands at end) held
    → After (role_of key) at end (has_leave (role_of key) at end inputs)
    (state_from step_machine key held inputs)
stood key at end lasting held [] within stands = stands
stood key at end lasting None (timed ∷ inputs) within stands = absurd stands
stood key at end lasting (Some life) (timed ∷ inputs) within stands =
    let role = role_of key in
    let next = (stepped key (Some life) timed).0 in
    let leaves = leaves_by role at end timed.moment timed.input in
    let later = has_leave role at end inputs in
    let last = state_from step_machine key next inputs in
    let one : After role at end leaves next =
    subst (λ s. After role s end (leaves_by role s end timed.moment timed.input) next) stands.is
    (step_lasts key life timed end
    (subst (λ s. (can_be role s && lasts s) ≡ true) (sym stands.is) lasting) stands.ends) in
    by_test leaves
    (λ gone. subst (λ b. After role at end (b || later) last) (sym gone)
    (always_within (Left role at) key (next_left key at) next inputs within.1
    (subst (λ b. After role at end b next) gone one)))
    (λ stays. subst (λ b. After role at end (b || later) last) (sym stays)
    (stood key at end lasting next inputs within.1
    (subst (λ b. After role at end b next) stays one)))

-- ---- the input that leads there

-- for how long, also while an ACK is waited for
abbrev pub time_at : Role → State → ℕ
time_at role state = unwrap_or (closing_time role state) LIFETIME

abbrev becomes : State → Next → Bool
becomes state Same = false
becomes state Ended = false
becomes state (Become new) = state_place (Some new) == state_place (Some state)

abbrev ends_in : ℕ → Due → Bool
ends_in time (Ending after) = after == time
ends_in time Both = time == LIFETIME
ends_in time due = false

abbrev leads_well : Role → State → Step → Bool
leads_well role closed step = (can_be role closed && lasts closed)
    && (becomes closed step.next && ends_in (time_at role closed) step.due)

abbrev closes_well : Role → State → Trigger → Step → Bool
closes_well role state trigger step = not (can_be role state)
    || option_map_or (λ closed. leads_well role closed step) (final_step role state trigger) true

-- states of one place are one
abbrev by_place : List (Option State)
by_place = None ∷ Some Calling ∷ Some Trying ∷ Some Proceeding ∷ Some Completed ∷ Some Accepted
    ∷ Some Confirmed ∷ []

placed : (state : State) → slice_get by_place (state_place (Some state)) ≡ Some (Some state)
placed Calling = refl
placed _ = refl

became : (state : State) (next : Next) (before : State) → becomes state next ≡ true
    → entered next (Some before) ≡ Some state
became state Same before is = absurd (false≢true is)
became state Ended before is = absurd (false≢true is)
became state (Become new) before is =
    let same : Some (Some new) ≡ Some (Some state) =
    sym (placed new) ∙ ap (slice_get by_place) (eqb-true _ _ is) ∙ placed state in cc

ending-in : (time : ℕ) (due : Due) (now : ℕ) (dues : Dues) → ends_in time due ≡ true
    → (rearmed due now dues).ending ≡ Some (now + time)
ending-in time (Ending after) now dues ends =
    ap (λ t. Some (now + t)) (eqb-true after time ends)
ending-in time Both now dues ends = ap (λ t. Some (now + t)) (sym (eqb-true time LIFETIME ends))
ending-in time due now dues ends = absurd (false≢true ends)

no_trigger : (held : Option Life) (now : ℕ) (input : Option Input) → is_abandon input ≡ true
    → trigger_of held now input ≡ None
no_trigger held now (Some Abandon) given = refl
no_trigger held now None given = absurd (false≢true given)
no_trigger held now (Some input) given = absurd (false≢true given)

by_known : (G : Option Life × List Out → Type 0) (key : Key) (life : Life) (timed : Timed Input)
    (trigger : Trigger) → trigger_of (Some life) timed.moment timed.input ≡ Some trigger
    → By G key life timed (Some trigger) → G (stepped key (Some life) timed)
by_known G key life timed trigger is by =
    by_input G key life timed
    (λ given. let none = no_trigger (Some life) timed.moment timed.input given in cc)
    (λ kept. subst (By G key life timed) (sym is) by)

pub led : (key : Key) (life : Life) (timed : Timed Input) (trigger : Trigger) (closed : State)
    → can_be (role_of key) life.state ≡ true
    → trigger_of (Some life) timed.moment timed.input ≡ Some trigger
    → final_step (role_of key) life.state trigger ≡ Some closed
    → ((can_be (role_of key) closed && lasts closed) ≡ true)
    × HeldAs (Stands closed (timed.moment + time_at (role_of key) closed))
    (stepped key (Some life) timed).0
led key life timed trigger closed possible is leads =
    let role = role_of key in
    let step = rule role life.state trigger in
    let P = Stands closed (timed.moment + time_at role closed) in
    let well : leads_well role closed step ≡ true =
    sym (ap (λ o. option_map_or (λ s. leads_well role s step) o true) leads)
    ∙ implied (can_be role life.state) _ possible
    (passes closes_well refl role life.state trigger) in
    let goes = and-right (can_be role closed && lasts closed) _ well in (
      and-left (can_be role closed && lasts closed) _ well,
      by_known (λ after. HeldAs P after.0) key life timed trigger is
          (held_as P (Some life.state) life.context step timed.moment _ closed
          (became closed step.next life.state (and-left (becomes closed step.next) _ goes))
          (record {
            is = refl;
            ends = ending-in (time_at role closed) step.due timed.moment life.context.timers
                (and-right (becomes closed step.next) _ goes);
          })),
    )

-- ---- the laws

later_within : (key : Key) (held : Option Life) (before after : List (Timed Input))
    → IsWithinLife step_machine key held (before ++ after)
    → IsWithinLife step_machine key (state_from step_machine key held before) after
later_within key held [] after within = within
later_within key held (timed ∷ before) after within =
    later_within key (stepped key held timed).0 before after within.1

after_closing : (key : Key) (inputs : List (Timed Input)) (life : LifeIn step_machine key inputs)
    (closed : State) (later : List (Timed Input)) (closes : Closes life closed later)
    → let end = closes.given.moment + time_at (role_of key) closed in
    After (role_of key) closed end (has_leave (role_of key) closed end later) (state_left life)
after_closing key inputs life closed later closes =
    let role = role_of key in
    let first = (stepped key None life.first).0 in
    let given = closes.given in
    let earlier = closes.earlier in
    let from : Option Life → List (Timed Input) → Option Life = state_from step_machine key in
    let there = led key closes.held given closes.trigger closed
    (is_timed role _ closes.held (reached key (life.first ∷ earlier)) closes.holds).possible
    closes.triggered closes.leads in
    let within : IsWithinLife step_machine key (Some closes.held) (given ∷ later) =
    subst (λ held. IsWithinLife step_machine key held (given ∷ later)) closes.holds
    (later_within key first earlier (given ∷ later)
    (subst (IsWithinLife step_machine key first) closes.are (is_within step_machine key inputs
    life))) in
    let last : state_left life ≡ from (stepped key (Some closes.held) given).0 later =
    ap (from first) closes.are ∙ state_from-append step_machine key first earlier (given ∷ later)
    ∙ ap (λ held. from held (given ∷ later)) closes.holds in
    let end = given.moment + time_at role closed in
    subst (After role closed end (has_leave role closed end later)) (sym last)
    (stood key closed end there.0 (stepped key (Some closes.held) given).0 later within.1 there.1)

no_ack : (role : Role) (state : State) (time : ℕ) → closing_time role state ≡ Some time
    → awaits_ack role state ≡ false
no_ack InviteServer Completed time is = cc
no_ack role state time is = refl

state_after : (role : Role) (at : State) (end : ℕ) (leaves : Bool) (held : Option Life)
    → awaits_ack role at ≡ false → After role at end leaves held
    → state_of held ≡ cond leaves None (Some at)
state_after role at end true None none after = refl
state_after role at end true (Some life) none after =
    absurd (not_both _ (and-left (awaits_ack role at) _ after) none)
state_after role at end false None none after = absurd after
state_after role at end false (Some life) none after = ap (λ s. Some s) after.is

pub closed_in_time : ClosedInTime step_machine
closed_in_time key inputs life closed time later closes is =
    let role = role_of key in
    let moment = closes.given.moment in
    subst (λ t. state_of (state_left life)
    ≡ cond (has_leave role closed (moment + t) later) None (Some closed))
    (ap (λ o. unwrap_or o LIFETIME) is)
    (state_after role closed (moment + time_at role closed) _ (state_left life)
    (no_ack role closed time is) (after_closing key inputs life closed later closes))

confirmed_after : (end : ℕ) (leaves : Bool) (held : Option Life)
    → After InviteServer Completed end leaves held
    → (leaves ≡ false → state_of held ≡ Some Completed)
    × (leaves ≡ true → is_gone_or_confirmed (state_of held) ≡ true)
confirmed_after end true None after = (λ no_leave. absurd (false≢true (sym no_leave)), λ leaves. refl)
confirmed_after end true (Some life) after =
    (λ no_leave. absurd (false≢true (sym no_leave)), λ leaves. by_state life.state after)
  where
    by_state : (state : State) → is_confirmed state ≡ true
        → is_gone_or_confirmed (Some state) ≡ true
    by_state Confirmed is = refl
    by_state state is = absurd (false≢true is)
confirmed_after end false None after = absurd after
confirmed_after end false (Some life) after =
    (λ no_leave. ap (λ s. Some s) after.is, λ leaves. absurd (false≢true leaves))

pub rejected_in_time : RejectedInTime step_machine
rejected_in_time key inputs life later closes server =
    confirmed_after (closes.given.moment + LIFETIME) _ (state_left life)
    (subst (λ role. let end = closes.given.moment + time_at role Completed in
    After role Completed end (has_leave role Completed end later) (state_left life)) server
    (after_closing key inputs life Completed later closes))

-- ---- no timeout comes early

abbrev no_class : Class → Bool
no_class class = false

abbrev times_out : Trigger → Step → Bool
times_out trigger step = tells no_class true false trigger step.handed

timeouts_count : Counts is_timeout no_class true false
timeouts_count = record {
  response = λ message status reason is. refl;
  request = λ message reply_to. refl;
  ack = λ message. refl;
  timeout = refl;
  failed = refl;
}

abbrev begins_quietly : Role → Trigger → Step → Bool
begins_quietly role trigger step = not (is_client role) || not (times_out trigger step)

abbrev times_out_in_time : Role → State → Trigger → Step → Bool
times_out_in_time role state trigger step = not (is_client role)
    || (not (times_out trigger step) || (is_end trigger && asks role state))

end_exits : (trigger : Trigger) → is_end trigger ≡ true → exits Client Trying trigger ≡ true
end_exits on.TimeoutDue is = refl
end_exits trigger is = absurd (false≢true is)

leaves_at_tick : (end now : ℕ) (input : Option Input) → is_abandon input ≡ false
    → leaves_by Client Trying end now input ≡ true → (is_none input && nat_le end now) ≡ true
leaves_at_tick end now None kept leaves = leaves
leaves_at_tick end now (Some Abandon) kept leaves = absurd (false≢true (sym kept))
leaves_at_tick end now (Some (Receive id message reply_to)) kept leaves =
    and-right (is_ack (arrival_of message.start message.cseq.method)) _ leaves
leaves_at_tick end now (Some input) kept leaves = leaves

no_timeout : (key : Key) → is_client (role_of key) ≡ true → (life : Life) (timed : Timed Input)
    (end : ℕ) → Asks (role_of key) end life.state life.context
    → (is_none timed.input && nat_le end timed.moment) ≡ false
    → ups is_timeout (stepped key (Some life) timed).1 ≡ 0
no_timeout key client life timed end asked early =
    let role = role_of key in
    let trigger = trigger_of (Some life) timed.moment timed.input in
    let G : Option Life × List Out → Type 0 = λ after. ups is_timeout after.1 ≡ 0 in
    by_input G key life timed (λ given. refl)
    (λ kept. by_each G key life timed trigger (λ none. refl) (λ t is.
    let step = rule role life.state t in
    ups-row is_timeout no_class true false timeouts_count key life.context step (Some life)
    timed.moment timed.input _ t is
    ∙ by_test (times_out t step)
    (λ out. let at_end = implied (times_out t step) _ out (implied (is_client role) _ client
    (passes times_out_in_time refl role life.state t)) in
    absurd (not_both _ (leaves_at_tick end timed.moment timed.input kept
    (sym (exits_is Client Trying life end timed.moment timed.input
    (asked (and-right (is_end t) _ at_end)) kept)
    ∙ ap (exits_by Client Trying) is ∙ end_exits t (and-left (is_end t) _ at_end))) early))
    (λ none. ap (λ b. cond {A = ℕ} b 1 0) none)))

no_timeouts : (key : Key) → is_client (role_of key) ≡ true → (end : ℕ) (held : Option Life)
    (inputs : List (Timed Input)) → IsWithinLife step_machine key held inputs
    → HeldIn (Asks (role_of key) end) held → has_tick_from end inputs ≡ false
    → ups is_timeout (outputs_from step_machine key held inputs) ≡ 0
no_timeouts key client end held [] within asked early = refl
no_timeouts key client end None (timed ∷ inputs) within asked early = absurd (false≢true within.0)
no_timeouts key client end (Some life) (timed ∷ inputs) within asked early =
    let after = stepped key (Some life) timed in
    let parts = or_parts (is_none timed.input && nat_le end timed.moment)
    (has_tick_from end inputs) early in
    sum_by-append (λ out. cond (is_up is_timeout out) 1 0) after.1
    (outputs_from step_machine key after.0 inputs)
    ∙ none_more (no_timeout key client life timed end asked parts.0)
    (no_timeouts key client end after.0 inputs within.1 (next_asks key end life timed asked) parts.1)

quiet_begun : (key : Key) (timed : Timed Input) (step : Step) (trigger : Trigger)
    → trigger_of None timed.moment timed.input ≡ Some trigger
    → not (times_out trigger step) ≡ true → (context : Option Context)
    → ups is_timeout (acted_if key timed.moment timed.input None context step).1 ≡ 0
quiet_begun key timed step trigger is quiet None = refl
quiet_begun key timed step trigger is quiet (Some context) =
    ups-row is_timeout no_class true false timeouts_count key context step None timed.moment
    timed.input _ trigger is
    ∙ ap (λ b. cond {A = ℕ} b 1 0) (is_not (times_out trigger step) quiet)

quiet_first : (key : Key) → is_client (role_of key) ≡ true → (first : Timed Input)
    → ups is_timeout (stepped key None first).1 ≡ 0
quiet_first key client first =
    by_step (λ after. ups is_timeout after.1 ≡ 0) key None first refl refl
    (λ step row. quiet_begun key first step row.trigger row.triggered
    (implied (is_client (role_of key)) _ client
    (begins begins_quietly refl (role_of key) row.trigger step row.row))
    (begun (role_of key) first.input))

pub client_key : (branch method : List ℕ) → is_client (role_of (key.Client branch method)) ≡ true
client_key branch method =
    by_test (is_same_method method (codes "INVITE"))
    (λ hit. ap (λ b. is_client (cond b InviteClient Client)) hit)
    (λ miss. ap (λ b. is_client (cond b InviteClient Client)) miss)

pub no_early_timeout : NoEarlyTimeout step_machine
no_early_timeout branch method inputs life early =
    let k = key.Client branch method in
    let client = client_key branch method in
    let after = stepped k None life.first in
    sum_by-append (λ out. cond (is_up is_timeout out) 1 0) after.1
    (outputs_from step_machine k after.0 life.rest)
    ∙ none_more (quiet_first k client life.first)
    (no_timeouts k client (life.first.moment + LIFETIME) after.0 life.rest
    (is_within step_machine k inputs life) (first_asks k life.first) early)
