-- Which timers run in each state, and what ticks do then.
use Rattle.std.proofs.Common.{◌≡◌, ℕ, Bool, true, false, ◌&&◌, ◌||◌, List, [], ◌∷◌, refl, sym, ◌∙◌, ap, subst}
use Rattle.std.specs.Prelude.{Option, None, Some, not, is_none, is_some}
use Rattle.std.specs.List.{AllByRecursion}
use Rattle.std.specs.Option.{option_map_or}
use Rattle.std.proofs.lemmas.Bool.{false≢true}
use Rattle.sip_transactions.proofs.RowFacts.{and-left, and-right}
use Rattle.sip_message.specs.declared.key.Key.{Key}
use Rattle.sip_timers.specs.Earlier.{earlier}
use Rattle.keyed_machine.specs.Machine.{Timed, state_from}
use Rattle.keyed_machine.proofs.Lives.{IsWithinLife}
use Rattle.sip_transactions.specs.declared.input.Input.{Input}
use Rattle.sip_transactions.specs.declared.life.Context.{Context}
use Rattle.sip_transactions.specs.declared.life.Life.{Life}
use Rattle.sip_transactions.specs.declared.state.Role.{Role}
use Rattle.sip_transactions.specs.declared.state.Role.TheVariants.{InviteClient, Client, InviteServer, Server}
use Rattle.sip_transactions.specs.declared.state.State.{State}
use Rattle.sip_transactions.specs.declared.state.State.TheVariants.{Calling, Trying, Proceeding, Completed, Accepted, Confirmed}
use Rattle.sip_transactions.specs.declared.step.Due.{Due}
use Rattle.sip_transactions.specs.declared.step.Due.TheVariants.{Keep, Clear, Ending, Both, Again}
use Rattle.sip_transactions.specs.declared.step.Step.{Step}
use Rattle.sip_transactions.specs.declared.trigger.Trigger.{Trigger}
use Rattle.sip_transactions.specs.Dues.{Dues}
use Rattle.sip_transactions.specs.Steps.Input.{role_of}
use Rattle.sip_transactions.specs.Steps.Life.{entered, step_machine, stepped}
use Rattle.sip_transactions.specs.Timers.{rearmed}
use Rattle.sip_agent_laws.specs.Transactions.Timers.{WaitsWithoutTimers, waits}
use Rattle.sip_agent_laws.proofs.transactions.Inputs.{HeldIn, begins, first_in, moved, next_in, passes, rule}

-- what each input keeps is true after all of them
pub always : (P : State → Context → Type 0) (Q : Timed Input → Type 0) (key : Key)
    → ((timed : Timed Input) → Q timed → HeldIn P (stepped key None timed).0)
    → ((life : Life) (timed : Timed Input) → Q timed → P life.state life.context
    → HeldIn P (stepped key (Some life) timed).0)
    → (held : Option Life) (inputs : List (Timed Input)) → AllByRecursion Q inputs → HeldIn P held
    → HeldIn P (state_from step_machine key held inputs)
always P Q key starts stays held [] all now = now
always P Q key starts stays None (timed ∷ inputs) all now =
    always P Q key starts stays (stepped key None timed).0 inputs all.1 (starts timed all.0)
always P Q key starts stays (Some life) (timed ∷ inputs) all now =
    always P Q key starts stays (stepped key (Some life) timed).0 inputs all.1
    (stays life timed all.0 now)

-- the same within a life
pub always_within : (P : State → Context → Type 0) (key : Key)
    → ((life : Life) (timed : Timed Input) → P life.state life.context
    → HeldIn P (stepped key (Some life) timed).0)
    → (held : Option Life) (inputs : List (Timed Input)) → IsWithinLife step_machine key held inputs
    → HeldIn P held → HeldIn P (state_from step_machine key held inputs)
always_within P key stays held [] within now = now
always_within P key stays None (timed ∷ inputs) within now = absurd (false≢true within.0)
always_within P key stays (Some life) (timed ∷ inputs) within now =
    always_within P key stays (stepped key (Some life) timed).0 inputs within.1
    (stays life timed now)

pub all_any : (inputs : List (Timed Input)) → AllByRecursion (λ timed. Unit {0}) inputs
all_any [] = tt
all_any (timed ∷ inputs) = (tt, all_any inputs)

-- ---- the timers of a state

-- the states of a role
abbrev pub can_be : Role → State → Bool
can_be InviteClient Trying = false
can_be InviteClient Confirmed = false
can_be InviteServer Calling = false
can_be InviteServer Trying = false
can_be Client Calling = false
can_be Server Calling = false
can_be InviteClient state = true
can_be InviteServer state = true
can_be role Accepted = false
can_be role Confirmed = false
can_be role state = true

-- timer A, E or G runs
abbrev pub repeats : Role → State → Bool
repeats InviteClient Calling = true
repeats Client Trying = true
repeats Client Proceeding = true
repeats InviteServer Completed = true
repeats role state = false

pub record IsTimed (role : Role) (state : State) (context : Context) : Type 0 where
  pub possible : can_be role state ≡ true
  pub repeat : is_some context.timers.repeat ≡ repeats role state
  pub ending : is_some context.timers.ending ≡ not (waits role state)

-- which of the two runs after a row
abbrev repeat_after : Due → Bool → Bool
repeat_after Keep before = before
repeat_after Clear before = false
repeat_after (Ending after) before = false
repeat_after Both before = true
repeat_after (Again pace) before = true

abbrev ending_after : Due → Bool → Bool
ending_after Keep before = before
ending_after Clear before = false
ending_after (Ending after) before = true
ending_after Both before = true
ending_after (Again pace) before = before

repeat-rearmed : (due : Due) (now : ℕ) (dues : Dues)
    → is_some (rearmed due now dues).repeat ≡ repeat_after due (is_some dues.repeat)
repeat-rearmed Keep now dues = refl
repeat-rearmed _ now dues = refl

ending-rearmed : (due : Due) (now : ℕ) (dues : Dues)
    → is_some (rearmed due now dues).ending ≡ ending_after due (is_some dues.ending)
ending-rearmed Keep now dues = refl
ending-rearmed _ now dues = refl

pub implied : (a b : Bool) → a ≡ true → (not a || b) ≡ true → b ≡ true
implied true b on ok = ok
implied false b on ok = absurd (false≢true on)

abbrev same : Bool → Bool → Bool
same true b = b
same false b = not b

same_is : (a b : Bool) → same a b ≡ true → a ≡ b
same_is true true e = refl
same_is true false e = absurd (false≢true e)
same_is false true e = absurd (false≢true e)
same_is false false e = refl

-- a test of the state that a row enters, if it enters one
abbrev pub enters : (State → Bool) → Option State → Step → Bool
enters test state step = option_map_or test (entered step.next state) true

pub entered_passes : (test : State → Bool) (state : Option State) (next : State) (step : Step)
    → enters test state step ≡ true → entered step.next state ≡ Some next → test next ≡ true
entered_passes test state next step ok is = sym (ap (λ s. option_map_or test s true) is) ∙ ok

abbrev well_timed : Role → Due → Bool → Bool → State → Bool
well_timed role due repeat ending next =
    can_be role next && (same (repeat_after due repeat) (repeats role next)
    && same (ending_after due ending) (not (waits role next)))

timed_after : (role : Role) (next : State) (context : Context) (step : Step) (now : ℕ)
    (made : Option (List ℕ)) (repeat ending : Bool) → is_some context.timers.repeat ≡ repeat
    → is_some context.timers.ending ≡ ending → well_timed role step.due repeat ending next ≡ true
    → IsTimed role next (moved context step now made)
timed_after role next context step now made repeat ending is_repeat is_ending ok =
    let timers = and-right (can_be role next) _ ok in
    record {
      possible = and-left (can_be role next) _ ok;
      repeat = repeat-rearmed step.due now context.timers ∙ ap (repeat_after step.due) is_repeat
          ∙ same_is _ _ (and-left _ (same (ending_after step.due ending) (not (waits role next)))
          timers);
      ending = ending-rearmed step.due now context.timers ∙ ap (ending_after step.due) is_ending
          ∙ same_is _ _ (and-right (same (repeat_after step.due repeat) (repeats role next)) _
          timers);
    }

abbrev stays_timed : Role → State → Trigger → Step → Bool
stays_timed role state trigger step = not (can_be role state)
    || enters (well_timed role step.due (repeats role state) (not (waits role state)))
    (Some state) step

-- the timers of the state run after each row
pub stays : (key : Key) (life : Life) (timed : Timed Input)
    → IsTimed (role_of key) life.state life.context
    → HeldIn (IsTimed (role_of key)) (stepped key (Some life) timed).0
stays key life timed is =
    next_in (IsTimed (role_of key)) key life timed is
    (λ trigger triggered next entered.
    let role = role_of key in
    let step = rule role life.state trigger in
    timed_after role next life.context step timed.moment _
    (repeats role life.state) (not (waits role life.state)) is.repeat is.ending
    (entered_passes
    (well_timed role step.due (repeats role life.state) (not (waits role life.state)))
    (Some life.state) next step
    (implied (can_be role life.state) _ is.possible
    (passes stays_timed refl role life.state trigger)) entered))

abbrev begins_timed : Role → Trigger → Step → Bool
begins_timed role trigger step = enters (well_timed role step.due false false) None step

pub starts : (key : Key) (timed : Timed Input)
    → HeldIn (IsTimed (role_of key)) (stepped key None timed).0
starts key timed =
    first_in (IsTimed (role_of key)) key timed (λ trigger step triggered row context calm next is.
    timed_after (role_of key) next context step timed.moment _ false false
    (ap (λ t. is_some t.repeat) calm) (ap (λ t. is_some t.ending) calm)
    (entered_passes (well_timed (role_of key) step.due false false) None next step
    (begins begins_timed refl (role_of key) trigger step row) is))

-- after any inputs
pub reached : (key : Key) (inputs : List (Timed Input))
    → HeldIn (IsTimed (role_of key)) (state_from step_machine key None inputs)
reached key inputs =
    always (IsTimed (role_of key)) (λ timed. Unit {0}) key (λ timed any. starts key timed)
    (λ life timed any. stays key life timed) None inputs (all_any inputs) tt

pub is_timed : (role : Role) (held : Option Life) (life : Life) → HeldIn (IsTimed role) held
    → held ≡ Some life → IsTimed role life.state life.context
is_timed role held life in_held is = subst (HeldIn (IsTimed role)) is in_held

-- ---- what waits

none_runs : (ending repeat : Option ℕ) (w r : Bool) → is_some ending ≡ not w → is_some repeat ≡ r
    → (r && w) ≡ false → is_none (earlier ending repeat) ≡ w
none_runs None None true r one other both = refl
none_runs None None false r one other both = absurd (false≢true one)
none_runs None (Some due) true true one other both = absurd (false≢true (sym both))
none_runs None (Some due) true false one other both = absurd (false≢true (sym other))
none_runs None (Some due) false r one other both = absurd (false≢true one)
none_runs (Some end) repeat true r one other both = absurd (false≢true (sym one))
none_runs (Some end) None false r one other both = refl
none_runs (Some end) (Some due) false r one other both = refl

repeats_or_waits : (role : Role) (state : State) → (repeats role state && waits role state) ≡ false
repeats_or_waits InviteClient Calling = refl
repeats_or_waits Client Trying = refl
repeats_or_waits Client Proceeding = refl
repeats_or_waits InviteServer Completed = refl
repeats_or_waits role state = refl

pub waits_without_timers : WaitsWithoutTimers step_machine
waits_without_timers key inputs life is =
    let timed = is_timed (role_of key) _ life (reached key inputs) is in
    none_runs life.context.timers.ending life.context.timers.repeat (waits (role_of key) life.state)
    (repeats (role_of key) life.state) timed.ending timed.repeat
    (repeats_or_waits (role_of key) life.state)
