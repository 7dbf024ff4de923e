-- What a tick does to a transaction; 64*T1 after the last other input it is gone or waits.
use Rattle.std.proofs.Common.{◌≡◌, ℕ, ◌+◌, ◌≤◌, Bool, true, false, ◌||◌, List, [], refl, sym, ◌∙◌, subst, arith, ◌&&◌, ◌∷◌, ap, ◌⊎◌, inl, inr}
use Rattle.std.specs.Prelude.{Option, None, Some, cond, not, is_some, nat_le, option_to_list, is_none}
use Rattle.std.specs.List.{AllByRecursion}
use Rattle.std.proofs.lemmas.Bool.{false≢true, leb-true, le-leb}
use Rattle.std.proofs.lemmas.Nat.{pow_pos}
use Rattle.std.proofs.lemmas.Grind.{common_steps}
use Rattle.sip_message.specs.declared.key.Key.{Key}
use Rattle.sip_timers.specs.Earlier.{earlier}
use Rattle.sip_timers.specs.Queue.{is_due}
use Rattle.keyed_machine.specs.Machine.{due_of, tick_at, Timed, state_from}
use Rattle.sip_transactions.specs.declared.life.Context.{Context}
use Rattle.sip_transactions.specs.declared.life.Life.{Life}
use Rattle.sip_transactions.specs.declared.output.Out.{Out}
use Rattle.sip_transactions.specs.declared.state.Role.{Role}
use Rattle.sip_transactions.specs.declared.state.State.{State}
use Rattle.sip_transactions.specs.declared.step.Due.{Due}
use Rattle.sip_transactions.specs.declared.step.Due.TheVariants.{Again, Keep, Clear, Ending, Both}
use Rattle.sip_transactions.specs.declared.step.Pace.{Pace}
use Rattle.sip_transactions.specs.declared.step.Step.{Step}
use Rattle.sip_transactions.specs.declared.step.UpAction.{UpAction}
use Rattle.sip_transactions.specs.declared.step.UpAction.TheVariants as up
use Rattle.sip_transactions.specs.declared.trigger.Trigger.{Trigger}
use Rattle.sip_transactions.specs.declared.trigger.Trigger.TheVariants as on
use Rattle.sip_transactions.specs.Dues.{Dues}
use Rattle.sip_transactions.specs.Machine.{life_due}
use Rattle.sip_transactions.specs.Steps.Input.{role_of, trigger_of}
use Rattle.sip_transactions.specs.Steps.Life.{begun, step_machine, stepped}
use Rattle.sip_transactions.specs.Steps.Output.{handed_out, outputs_of}
use Rattle.sip_transactions.specs.Timers.{interval, rearmed}
use Rattle.sip_transactions.proofs.LawSteps.{by_step, is_ended}
use Rattle.sip_transactions.proofs.OneRequest.{life_after-ended}
use Rattle.sip_transactions.proofs.Pace.{interval_least}
use Rattle.sip_transactions.proofs.RowFacts.{by_test, and-left, and-right, not_both}
use Rattle.sip_agent_laws.specs.Transactions.Timers.{IsQuiet, NothingLeftDue, TicksAreQuiet, waits, ComesBy, GoneUnlessWaiting, has_tick_from, is_gone_or_waits}
use Rattle.sip_agent_laws.proofs.transactions.Inputs.{tick_trigger, By, HeldIn, after_row, by_input, passes, rule, begins, first_in, next_in, outputs_each}
use Rattle.sip_agent_laws.proofs.transactions.Timed.{IsTimed, can_be, implied, reached, repeats, always, entered_passes, enters, starts, stays}
use Rattle.sip_timers.specs.declared.estimate.TheConstants.{LIFETIME}
use Rattle.keyed_machine.proofs.Phases.{state_from-append}
use Rattle.sip_transactions.specs.declared.input.Input.{Input}

-- by the timer that fires, if one does
pub by_tick : (G : Option Life × List Out → Type 0) (key : Key) (life : Life) (now : ℕ)
    → (is_due now life.context.timers.ending ≡ true
    → By G key life (tick_at now) (Some on.TimeoutDue))
    → (is_due now life.context.timers.ending ≡ false
    → is_due now life.context.timers.repeat ≡ true
    → By G key life (tick_at now) (Some on.RetransmitDue))
    → (is_due now life.context.timers.ending ≡ false
    → is_due now life.context.timers.repeat ≡ false → G (Some life, []))
    → G (stepped key (Some life) (tick_at now))
by_tick G key life now ends repeats calm =
    let ending = is_due now life.context.timers.ending in
    let repeat = is_due now life.context.timers.repeat in
    let At : Bool → Bool → Type 0 = λ e r. By G key life (tick_at now)
    (cond e (Some on.TimeoutDue) (cond r (Some on.RetransmitDue) None)) in
    by_input G key life (tick_at now) (λ given. absurd (false≢true given))
    (λ goes_on. by_test ending
    (λ due. subst (λ e. At e repeat) (sym due) (ends due))
    (λ early. subst (λ e. At e repeat) (sym early) (by_test repeat
    (λ due. subst (λ r. At false r) (sym due) (repeats early due))
    (λ none. subst (λ r. At false r) (sym none) (calm early none)))))

-- ---- the end

abbrev pub is_end : Trigger → Bool
is_end on.TimeoutDue = true
is_end trigger = false

abbrev timeouts_end : Role → State → Trigger → Step → Bool
timeouts_end role state trigger step = not (is_end trigger) || (not (can_be role state)
    || (waits role state || is_ended step.next))

pub runs : (now : ℕ) (ending : Option ℕ) → is_due now ending ≡ true → is_some ending ≡ true
runs now None due = due
runs now (Some end) due = refl

last_left : (can waits ended : Bool) → can ≡ true → true ≡ not waits
    → (not can || (waits || ended)) ≡ true → ended ≡ true
last_left true false ended possible runs ok = ok
last_left true true ended possible runs ok = absurd (false≢true (sym runs))
last_left false waits ended possible runs ok = absurd (false≢true possible)

-- the row of a timeout ends it
pub timeout_ends : (role : Role) (life : Life) (now : ℕ) → IsTimed role life.state life.context
    → is_due now life.context.timers.ending ≡ true
    → is_ended (rule role life.state on.TimeoutDue).next ≡ true
timeout_ends role life now timed due =
    last_left (can_be role life.state) (waits role life.state) _ timed.possible
    (sym (runs now life.context.timers.ending due) ∙ timed.ending)
    (passes timeouts_end refl role life.state on.TimeoutDue)

-- ---- nothing is left due

not_due : (now : ℕ) (a b : Option ℕ) → is_due now a ≡ false → is_due now b ≡ false
    → is_due now (earlier a b) ≡ false
not_due now None b one other = other
not_due now (Some a) None one other = one
not_due now (Some a) (Some b) one other = grind (arith, common_steps)

later_due : (pace : Pace) (now j : ℕ) → nat_le (now + interval pace j) now ≡ false
later_due pace now j =
    let least : 1 ≤ interval pace j = omega (arith, interval_least pace j, pow_pos j) in
    by_test (nat_le (now + interval pace j) now)
    (λ due. let below : now + interval pace j ≤ now = leb-true _ _ due in absurd (omega arith))
    (λ later. later)

abbrev pub is_retransmit : Trigger → Bool
is_retransmit on.RetransmitDue = true
is_retransmit trigger = false

abbrev is_again : Due → Bool
is_again (Again pace) = true
is_again due = false

abbrev repeats_again : Role → State → Trigger → Step → Bool
repeats_again role state trigger step =
    not (is_retransmit trigger) || (not (repeats role state) || is_again step.due)

again_later : (due : Due) (now : ℕ) (dues : Dues) → is_again due ≡ true
    → is_due now dues.ending ≡ false
    → is_due now (earlier (rearmed due now dues).ending (rearmed due now dues).repeat) ≡ false
again_later (Again pace) now dues again early =
    not_due now dues.ending (Some (now + interval pace (dues.fired + 1))) early
    (later_due pace now (dues.fired + 1))
again_later due now dues again early = absurd (false≢true again)

no_due : (now : ℕ) (held : Option Life)
    → HeldIn (λ state context. is_due now (earlier context.timers.ending context.timers.repeat)
    ≡ false) held → is_due now (due_of life_due held) ≡ false
no_due now None held = refl
no_due now (Some life) held = held

-- a tick begins nothing
pub none_ticks : (key : Key) (now : ℕ) → (stepped key None (tick_at now)).0 ≡ None
unfolding begun
none_ticks key now =
    by_step (λ after. after.0 ≡ None) key None (tick_at now) refl refl (λ step row. refl)

tick_leaves : (key : Key) (now : ℕ) (held : Option Life) → HeldIn (IsTimed (role_of key)) held
    → is_due now (due_of life_due (stepped key held (tick_at now)).0) ≡ false
tick_leaves key now None timed = subst (λ after. is_due now (due_of life_due after) ≡ false)
    (sym (none_ticks key now)) refl
tick_leaves key now (Some life) timed =
    let role = role_of key in
    let Later : State → Context → Type 0 = λ state context.
    is_due now (earlier context.timers.ending context.timers.repeat) ≡ false in
    no_due now (stepped key (Some life) (tick_at now)).0
    (by_tick (λ after. HeldIn Later after.0) key life now
    (λ due. subst (HeldIn Later) (sym (life_after-ended (Some life.state) life.context
    (rule role life.state on.TimeoutDue) now _ (timeout_ends role life now timed due))) tt)
    (λ early due. after_row Later (Some life.state) life.context
    (rule role life.state on.RetransmitDue) now _ (λ next entered.
    again_later (rule role life.state on.RetransmitDue).due now life.context.timers
    (implied (repeats role life.state) _
    (sym timed.repeat ∙ runs now life.context.timers.repeat due)
    (passes repeats_again refl role life.state on.RetransmitDue)) early))
    (λ early none. not_due now life.context.timers.ending life.context.timers.repeat early none))

pub nothing_left_due : NothingLeftDue step_machine
nothing_left_due key inputs now = tick_leaves key now _ (reached key inputs)

-- ---- ticks are quiet

-- a row that hands up and drops nothing that a tick may not
abbrev is_quiet : UpAction → Bool
is_quiet up.Nothing = true
is_quiet up.Message = true
is_quiet up.Timeout = true
is_quiet up.Failed = false
is_quiet up.NoTransaction = false

abbrev ticks_quiet : Role → State → Trigger → Step → Bool
ticks_quiet role state trigger step =
    not (is_end trigger || is_retransmit trigger) || is_quiet step.handed

handed_quiet : (key : Key) (context : Context) (handed : UpAction) → is_quiet handed ≡ true
    → AllByRecursion IsQuiet (option_to_list (handed_out key context handed None))
unfolding handed_out
handed_quiet key context up.Nothing quiet = tt
handed_quiet key context up.Message quiet = tt
handed_quiet key context up.Timeout quiet = (refl, tt)
handed_quiet key context up.Failed quiet = absurd (false≢true quiet)
handed_quiet key context up.NoTransaction quiet = absurd (false≢true quiet)

outputs_quiet : (key : Key) (context : Context) (step : Step) (made : Option (List ℕ))
    → is_quiet step.handed ≡ true
    → AllByRecursion IsQuiet (outputs_of key context step made None)
outputs_quiet key context step made quiet =
    outputs_each IsQuiet key context (λ bytes. tt) step made None
    (handed_quiet key context step.handed quiet)

pub ticks_are_quiet : TicksAreQuiet step_machine
unfolding begun
ticks_are_quiet key None now =
    by_step (λ after. AllByRecursion IsQuiet after.1) key None (tick_at now) tt tt
    (λ step row. tt)
ticks_are_quiet key (Some life) now =
    let role = role_of key in
    by_tick (λ after. AllByRecursion IsQuiet after.1) key life now
    (λ due. outputs_quiet key life.context (rule role life.state on.TimeoutDue) _
    (passes ticks_quiet refl role life.state on.TimeoutDue))
    (λ early due. outputs_quiet key life.context (rule role life.state on.RetransmitDue) _
    (passes ticks_quiet refl role life.state on.RetransmitDue))
    (λ early none. tt)

-- ---- the end comes by a moment

abbrev pub EndsBy : ℕ → Option ℕ → Type 0
EndsBy bound None = Unit {0}
EndsBy bound (Some end) = end ≤ bound

-- an end is set by an input that is no tick, and 64*T1 later at most
abbrev sets_in_time : Trigger → Due → Bool
sets_in_time trigger Keep = true
sets_in_time trigger Clear = true
sets_in_time trigger (Ending after) =
    nat_le after LIFETIME && not (is_end trigger || is_retransmit trigger)
sets_in_time trigger Both = not (is_end trigger || is_retransmit trigger)
sets_in_time trigger (Again pace) = true

-- the trigger of an input that is no tick
other_input : (held : Option Life) (now : ℕ) (input : Option Input) (trigger : Trigger)
    → trigger_of held now input ≡ Some trigger
    → not (is_end trigger || is_retransmit trigger) ≡ true → is_none input ≡ false
other_input held now (Some input) trigger is other = refl
other_input held now None trigger is other =
    tick_trigger (λ t. not (is_end t || is_retransmit t) ≡ true → true ≡ false)
    (λ no_end. absurd (false≢true no_end)) (λ no_repeat. absurd (false≢true no_repeat)) held now
    trigger is other

rearmed_by : (held : Option Life) (now moment : ℕ) (input : Option Input) (trigger : Trigger)
    → trigger_of held now input ≡ Some trigger → (is_none input ≡ false → now ≤ moment)
    → (due : Due) (dues : Dues) → sets_in_time trigger due ≡ true
    → EndsBy (moment + LIFETIME) dues.ending
    → EndsBy (moment + LIFETIME) (rearmed due now dues).ending
rearmed_by held now moment input trigger is comes Keep dues ok by = by
rearmed_by held now moment input trigger is comes Clear dues ok by = tt
rearmed_by held now moment input trigger is comes (Ending after) dues ok by =
    let short : after ≤ LIFETIME = leb-true after LIFETIME (and-left (nat_le after LIFETIME) _ ok) in
    let early : now ≤ moment = comes (other_input held now input trigger is
    (and-right (nat_le after LIFETIME) _ ok)) in
    omega arith
rearmed_by held now moment input trigger is comes Both dues ok by =
    let early : now ≤ moment = comes (other_input held now input trigger is ok) in omega arith
rearmed_by held now moment input trigger is comes (Again pace) dues ok by = by

-- the timers of the state run, and the end comes by then
pub record Ends (role : Role) (bound : ℕ) (state : State) (context : Context) : Type 0 where
  pub timed : IsTimed role state context
  pub by : EndsBy bound context.timers.ending

pub both_in : (role : Role) (bound : ℕ) (held : Option Life) → HeldIn (IsTimed role) held
    → HeldIn (λ state context. EndsBy bound context.timers.ending) held
    → HeldIn (Ends role bound) held
both_in role bound None timed by = tt
both_in role bound (Some life) timed by = record { timed = timed; by = by }

abbrev starts_in_time : Role → Trigger → Step → Bool
starts_in_time role trigger step = sets_in_time trigger step.due

abbrev goes_in_time : Role → State → Trigger → Step → Bool
goes_in_time role state trigger step = sets_in_time trigger step.due

ends_first : (key : Key) (moment : ℕ) (timed : Timed Input) → ComesBy moment timed
    → HeldIn (Ends (role_of key) (moment + LIFETIME)) (stepped key None timed).0
ends_first key moment timed comes =
    both_in (role_of key) (moment + LIFETIME) _ (starts key timed)
    (first_in (λ state context. EndsBy (moment + LIFETIME) context.timers.ending) key timed
    (λ trigger step is row context calm next entered.
    rearmed_by None timed.moment moment timed.input trigger is comes step.due context.timers
    (begins starts_in_time refl (role_of key) trigger step row)
    (subst (λ t. EndsBy (moment + LIFETIME) t.ending) (sym calm) tt)))

ends_next : (key : Key) (moment : ℕ) (life : Life) (timed : Timed Input) → ComesBy moment timed
    → Ends (role_of key) (moment + LIFETIME) life.state life.context
    → HeldIn (Ends (role_of key) (moment + LIFETIME)) (stepped key (Some life) timed).0
ends_next key moment life timed comes ends =
    both_in (role_of key) (moment + LIFETIME) _ (stays key life timed ends.timed)
    (next_in (λ state context. EndsBy (moment + LIFETIME) context.timers.ending) key life timed
    ends.by (λ trigger is next entered.
    rearmed_by (Some life) timed.moment moment timed.input trigger is comes
    (rule (role_of key) life.state trigger).due life.context.timers
    (passes goes_in_time refl (role_of key) life.state trigger) ends.by))

-- ---- ticks

abbrev AllTicks : List (Timed Input) → Type 0
AllTicks ticks = AllByRecursion (λ timed. timed.input ≡ None) ticks

-- a tick, written as one
pub as_tick : (P : Timed Input → Type 0) (timed : Timed Input) → timed.input ≡ None
    → P (tick_at timed.moment) → P timed
as_tick P timed is holds =
    subst (λ input. P (record { moment = timed.moment; input = input })) (sym is) holds

abbrev pub Waiting : Role → State → Context → Type 0
Waiting role state context = waits role state ≡ true

abbrev ticks_wait : Role → State → Trigger → Step → Bool
ticks_wait role state trigger step =
    not (is_end trigger || is_retransmit trigger) || (not (waits role state)
    || enters (waits role) (Some state) step)

pub waits_on : (key : Key) (held : Option Life) (now : ℕ) → HeldIn (Waiting (role_of key)) held
    → HeldIn (Waiting (role_of key)) (stepped key held (tick_at now)).0
waits_on key None now waiting =
    subst (HeldIn (Waiting (role_of key))) (sym (none_ticks key now)) tt
waits_on key (Some life) now waiting =
    let role = role_of key in
    let after : (trigger : Trigger)
    → (is_end trigger || is_retransmit trigger) ≡ true
    → By (λ a. HeldIn (Waiting role) a.0) key life (tick_at now) (Some trigger) =
    λ trigger fires. after_row (Waiting role) (Some life.state) life.context
    (rule role life.state trigger) now _ (λ next is. entered_passes (waits role) (Some life.state)
    next (rule role life.state trigger) (implied (waits role life.state) _ waiting
    (implied _ _ fires (passes ticks_wait refl role life.state trigger))) is) in
    by_tick (λ a. HeldIn (Waiting role) a.0) key life now
    (λ due. after on.TimeoutDue refl) (λ early due. after on.RetransmitDue refl)
    (λ early none. waiting)

wait_on : (key : Key) (held : Option Life) (ticks : List (Timed Input)) → AllTicks ticks
    → HeldIn (Waiting (role_of key)) held
    → HeldIn (Waiting (role_of key)) (state_from step_machine key held ticks)
wait_on key =
    always (Waiting (role_of key)) (λ timed. timed.input ≡ None) key
    (λ timed is. as_tick (λ t. HeldIn (Waiting (role_of key)) (stepped key None t).0) timed is
    (waits_on key None timed.moment tt))
    (λ life timed is waiting. as_tick
    (λ t. HeldIn (Waiting (role_of key)) (stepped key (Some life) t).0) timed is
    (waits_on key (Some life) timed.moment waiting))

-- the tick at which the end is due
pub tick_ends : (key : Key) (life : Life) (now : ℕ)
    → IsTimed (role_of key) life.state life.context
    → is_due now life.context.timers.ending ≡ true
    → (stepped key (Some life) (tick_at now)).0 ≡ None
tick_ends key life now timed due =
    by_tick (λ after. after.0 ≡ None) key life now
    (λ ends. life_after-ended (Some life.state) life.context
    (rule (role_of key) life.state on.TimeoutDue) now _
    (timeout_ends (role_of key) life now timed due))
    (λ early repeats. absurd (not_both _ due early)) (λ early none. absurd (not_both _ due early))

due_or_waits : (now bound : ℕ) (ending : Option ℕ) (w : Bool) → EndsBy bound ending
    → bound ≤ now → is_some ending ≡ not w → (is_due now ending ≡ true) ⊎ (w ≡ true)
due_or_waits now bound None true by late runs = inr refl
due_or_waits now bound None false by late runs = absurd (false≢true runs)
due_or_waits now bound (Some end) w by late runs = inl (le-leb end now (omega arith))

pub ends_or_waits : (key : Key) (bound : ℕ) (held : Option Life) (now : ℕ)
    → HeldIn (Ends (role_of key) bound) held → bound ≤ now
    → HeldIn (Waiting (role_of key)) (stepped key held (tick_at now)).0
ends_or_waits key bound None now ends late = waits_on key None now tt
ends_or_waits key bound (Some life) now ends late =
    elim (due_or_waits now bound life.context.timers.ending (waits (role_of key) life.state) ends.by
    late ends.timed.ending) [
      | inl due ↦ subst (HeldIn (Waiting (role_of key))) (sym (tick_ends key life now ends.timed
          due)) tt
      | inr waiting ↦ waits_on key (Some life) now waiting
    ]

pub ends_on : (key : Key) (moment : ℕ) (held : Option Life) (timed : Timed Input)
    → ComesBy moment timed → HeldIn (Ends (role_of key) (moment + LIFETIME)) held
    → HeldIn (Ends (role_of key) (moment + LIFETIME)) (stepped key held timed).0
ends_on key moment None timed comes ends = ends_first key moment timed comes
ends_on key moment (Some life) timed comes ends = ends_next key moment life timed comes ends

-- a tick comes by any moment
pub ticks_come : (moment : ℕ) (timed : Timed Input) → timed.input ≡ None → ComesBy moment timed
ticks_come moment timed is other = absurd (false≢true (sym other ∙ ap is_none is))

wait_after : (key : Key) (moment : ℕ) (held : Option Life) (ticks : List (Timed Input))
    → AllTicks ticks → has_tick_from (moment + LIFETIME) ticks ≡ true
    → HeldIn (Ends (role_of key) (moment + LIFETIME)) held
    → HeldIn (Waiting (role_of key)) (state_from step_machine key held ticks)
wait_after key moment held [] all found ends = absurd (false≢true found)
wait_after key moment held (timed ∷ ticks) all found ends =
    let here = is_none timed.input && nat_le (moment + LIFETIME) timed.moment in
    by_test here
    (λ late. wait_on key (stepped key held timed).0 ticks all.1
    (as_tick (λ t. HeldIn (Waiting (role_of key)) (stepped key held t).0) timed all.0
    (ends_or_waits key (moment + LIFETIME) held timed.moment ends
    (leb-true _ _ (and-right (is_none timed.input) _ late)))))
    (λ early. wait_after key moment (stepped key held timed).0 ticks all.1
    (sym (ap (λ b. b || has_tick_from (moment + LIFETIME) ticks) early) ∙ found)
    (ends_on key moment held timed (ticks_come moment timed all.0) ends))

pub gone_or_waits : (role : Role) (held : Option Life) → HeldIn (Waiting role) held
    → is_gone_or_waits role held ≡ true
gone_or_waits role None waiting = refl
gone_or_waits role (Some life) waiting = waiting

pub ends_after : (key : Key) (moment : ℕ) (inputs : List (Timed Input))
    → AllByRecursion (ComesBy moment) inputs
    → HeldIn (Ends (role_of key) (moment + LIFETIME)) (state_from step_machine key None inputs)
ends_after key moment inputs came =
    always (Ends (role_of key) (moment + LIFETIME)) (ComesBy moment) key (ends_first key moment)
    (ends_next key moment) None inputs came tt

pub gone_unless_waiting : GoneUnlessWaiting step_machine
gone_unless_waiting key moment inputs ticks came all found =
    subst (λ after. is_gone_or_waits (role_of key) after ≡ true)
    (sym (state_from-append step_machine key None inputs ticks))
    (gone_or_waits (role_of key)
    (state_from step_machine key (state_from step_machine key None inputs) ticks)
    (wait_after key moment (state_from step_machine key None inputs) ticks all found
    (ends_after key moment inputs came)))
