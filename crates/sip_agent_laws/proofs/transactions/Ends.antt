-- A client transaction tells how its request ended.
use Rattle.std.proofs.Common.{◌≡◌, ℕ, ◌+◌, ◌≤◌, Bool, true, false, ◌&&◌, ◌||◌, List, [], ◌∷◌, ◌++◌, refl, sym, ◌∙◌, ap, subst, arith, ◌⊎◌, inl, inr}
use Rattle.std.specs.Prelude.{Option, None, Some, IsSome, cond, not, nat_le, is_none}
use Rattle.std.specs.List.{AllByRecursion, list_any}
use Rattle.std.specs.Option.{option_map_or}
use Rattle.std.proofs.lemmas.Bool.{false≢true, leb-true}
use Rattle.std.proofs.lemmas.List.Sums.{sum_by-append}
use Rattle.sip_message.specs.declared.key.Key.{Key}
use Rattle.sip_timers.specs.declared.estimate.TheConstants.{LIFETIME}
use Rattle.sip_timers.specs.Queue.{is_due}
use Rattle.keyed_machine.specs.Machine.{LifeIn, Timed, outputs_from, state_from, tick_at}
use Rattle.keyed_machine.proofs.Lives.{IsWithinLife, is_within}
use Rattle.sip_transactions.specs.declared.input.Input.{Input}
use Rattle.sip_transactions.specs.declared.life.Context.{Context}
use Rattle.sip_transactions.specs.declared.life.Life.{Life}
use Rattle.sip_transactions.specs.declared.output.Out.{Out}
use Rattle.sip_transactions.specs.declared.output.UpKind.{UpKind}
use Rattle.sip_transactions.specs.declared.state.Role.{Role}
use Rattle.sip_transactions.specs.declared.state.Role.TheVariants.{InviteClient, Client}
use Rattle.sip_transactions.specs.declared.state.State.{State}
use Rattle.sip_transactions.specs.declared.state.State.TheVariants.{Calling, Trying, Proceeding}
use Rattle.sip_transactions.specs.declared.step.Due.{Due}
use Rattle.sip_transactions.specs.declared.step.Due.TheVariants.{Keep, Both, Again}
use Rattle.sip_transactions.specs.declared.step.Step.{Step}
use Rattle.sip_transactions.specs.declared.trigger.Trigger.{Trigger}
use Rattle.sip_transactions.specs.Dues.{Dues}
use Rattle.sip_transactions.specs.Steps.Input.{is_abandon, message_in, role_of, trigger_of}
use Rattle.sip_transactions.specs.Steps.Life.{acted_if, begun, entered, state_of, step_machine, stepped}
use Rattle.sip_transactions.specs.Steps.Output.{made_bytes}
use Rattle.sip_transactions.specs.Timers.{rearmed}
use Rattle.sip_transactions.proofs.Firings.{is_client}
use Rattle.sip_transactions.proofs.LawSteps.{by_step}
use Rattle.sip_transactions.proofs.RowFacts.{and-left, and-right, by_test, not_both, or_cases}
use Rattle.sip_agent_laws.specs.Transactions.Outcomes.{AtMostOneOutcome, EachInviteEnds, EachRequestEnds, is_given_up, is_outcome, is_overdue, is_progress, is_up, ups}
use Rattle.sip_agent_laws.specs.Transactions.Timers.{has_tick_from}
use Rattle.sip_agent_laws.proofs.transactions.Ticks.{as_tick, tick_ends}
use Rattle.sip_agent_laws.proofs.transactions.Inputs.{HeldIn, begins, first_in, next_in, passes, rule}
use Rattle.sip_agent_laws.proofs.transactions.Timed.{IsTimed, all_any, always_within, enters, entered_passes, implied, starts, stays}
use Rattle.sip_agent_laws.proofs.transactions.Told.{finals, outcomes_count, progress_count, provisionals, tells, ups-row, counted, counted_all, score, state-row}

-- ---- what an input tells

-- a client without a final response
abbrev pub lacks : Role → State → Bool
lacks InviteClient Calling = true
lacks InviteClient Proceeding = true
lacks Client Trying = true
lacks Client Proceeding = true
lacks role state = false

-- the client of an INVITE that waits for a final response
abbrev pub pends : State → Bool
pends Proceeding = true
pends state = false

abbrev pub lack : Role → State → ℕ
lack role state = cond (lacks role state) 1 0

abbrev pend : State → ℕ
pend state = cond (pends state) 1 0

abbrev outcome : Trigger → Step → ℕ
outcome trigger step = cond (tells finals true true trigger step.handed) 1 0

abbrev progress : Trigger → Step → ℕ
progress trigger step = cond (tells provisionals false false trigger step.handed) 1 0

-- what lacks a final response and no longer does tells of an outcome
abbrev tells_enough : Role → State → Trigger → Step → Bool
tells_enough role state trigger step = not (is_client role)
    || nat_le (lack role state)
    (outcome trigger step + score (lack role) (entered step.next (Some state)))

-- and the client of another request than INVITE tells of none otherwise
abbrev pub is_plain_client : Role → Bool
is_plain_client Client = true
is_plain_client role = false

abbrev tells_once : Role → State → Trigger → Step → Bool
tells_once role state trigger step = not (is_plain_client role)
    || nat_le (outcome trigger step + score (lack role) (entered step.next (Some state)))
    (lack role state)

abbrev pub is_invite_client : Role → Bool
is_invite_client InviteClient = true
is_invite_client role = false

-- what comes to pend tells of progress
abbrev tells_progress : Role → State → Trigger → Step → Bool
tells_progress role state trigger step = not (is_invite_client role)
    || nat_le (score pend (entered step.next (Some state))) (pend state + progress trigger step)

abbrev pub NotGivenUp : Timed Input → Type 0
NotGivenUp timed = is_abandon timed.input ≡ false

abbrev pub Any : Timed Input → Type 0
Any timed = Unit {0}

pub rest_enough : (key : Key) → is_client (role_of key) ≡ true → (held : Option Life)
    (inputs : List (Timed Input)) → AllByRecursion NotGivenUp inputs
    → IsWithinLife step_machine key held inputs
    → score (lack (role_of key)) (state_of held)
    ≤ ups is_outcome (outputs_from step_machine key held inputs)
    + score (lack (role_of key)) (state_of (state_from step_machine key held inputs))
rest_enough key client =
    let role = role_of key in
    let Fits : ℕ → ℕ → ℕ → Type 0 = λ before said after. before ≤ said + after in
    counted_all is_outcome finals true true outcomes_count (lack role) Fits key NotGivenUp
    (λ before after final said more one other. omega arith) (λ n. omega arith)
    (λ life timed kept. counted is_outcome finals true true outcomes_count (lack role) Fits key life
    timed (λ given. absurd (false≢true (sym kept ∙ given))) (omega arith)
    (λ trigger. leb-true _ _
    (implied (is_client role) _ client (passes tells_enough refl role life.state trigger))))

pub rest_once : (key : Key) → is_plain_client (role_of key) ≡ true → (held : Option Life)
    (inputs : List (Timed Input)) → AllByRecursion Any inputs
    → IsWithinLife step_machine key held inputs
    → ups is_outcome (outputs_from step_machine key held inputs)
    + score (lack (role_of key)) (state_of (state_from step_machine key held inputs))
    ≤ score (lack (role_of key)) (state_of held)
rest_once key client =
    let role = role_of key in
    let Fits : ℕ → ℕ → ℕ → Type 0 = λ before said after. said + after ≤ before in
    counted_all is_outcome finals true true outcomes_count (lack role) Fits key Any
    (λ before after final said more one other. omega arith) (λ n. omega arith)
    (λ life timed any. counted is_outcome finals true true outcomes_count (lack role) Fits key life
    timed (λ given. omega arith) (omega arith)
    (λ trigger. leb-true _ _
    (implied (is_plain_client role) _ client (passes tells_once refl role life.state trigger))))

rest_progress : (key : Key) → is_invite_client (role_of key) ≡ true → (held : Option Life)
    (inputs : List (Timed Input)) → AllByRecursion Any inputs
    → IsWithinLife step_machine key held inputs
    → score pend (state_of (state_from step_machine key held inputs))
    ≤ score pend (state_of held)
    + ups is_progress (outputs_from step_machine key held inputs)
rest_progress key client =
    let role = role_of key in
    let Fits : ℕ → ℕ → ℕ → Type 0 = λ before said after. after ≤ before + said in
    counted_all is_progress provisionals false false progress_count pend Fits key Any
    (λ before after final said more one other. omega arith) (λ n. omega arith)
    (λ life timed any. counted is_progress provisionals false false progress_count pend Fits key life
    timed (λ given. omega arith) (omega arith)
    (λ trigger. leb-true _ _
    (implied (is_invite_client role) _ client
    (passes tells_progress refl role life.state trigger))))

-- ---- the start

pub is_not : (b : Bool) → not b ≡ true → b ≡ false
is_not true no_b = sym no_b
is_not false no_b = refl

-- a client begins without a final response, and tells nothing
abbrev begins_well : Role → Trigger → Step → Bool
begins_well role trigger step = not (is_client role) || enters (λ state. lacks role state
    && (not (pends state) && not (tells finals true true trigger step.handed))) None step

record Begins (role : Role) (after : Option Life × List Out) : Type 0 where
  lacks : score (lack role) (state_of after.0) ≡ 1
  pends : score pend (state_of after.0) ≡ 0
  none : ups is_outcome after.1 ≡ 0

well_begun : (role : Role) (state : Option State) (told : Bool) → IsSome state
    → option_map_or (λ s. lacks role s && (not (pends s) && not told)) state true ≡ true
    → (score (lack role) state ≡ 1) × (score pend state ≡ 0) × (told ≡ false)
well_begun role None told some ok = absurd (false≢true some)
well_begun role (Some s) told some ok =
    let others = and-right (lacks role s) _ ok in (
      ap (λ b. cond {A = ℕ} b 1 0) (and-left (lacks role s) _ ok),
      ap (λ b. cond {A = ℕ} b 1 0) (is_not (pends s) (and-left (not (pends s)) _ others)),
      is_not told (and-right (not (pends s)) _ others),
    )

some_state : (held : Option Life) → IsSome held → IsSome (state_of held)
some_state None some = some
some_state (Some life) some = refl

begun_well : (key : Key) (timed : Timed Input) (step : Step) (trigger : Trigger)
    → trigger_of None timed.moment timed.input ≡ Some trigger
    → begins_well (role_of key) trigger step ≡ true → is_client (role_of key) ≡ true
    → (context : Option Context)
    → IsSome (acted_if key timed.moment timed.input None context step).0
    → Begins (role_of key) (acted_if key timed.moment timed.input None context step)
begun_well key timed step trigger is ok client None some = absurd (false≢true some)
begun_well key timed step trigger is ok client (Some context) some =
    let role = role_of key in
    let made = made_bytes context.request step.sent (message_in timed.input) in
    let state = state-row None context step timed.moment made in
    let well = well_begun role (entered step.next None) (tells finals true true trigger step.handed)
    (subst IsSome state (some_state _ some)) (implied (is_client role) _ client ok) in
    record {
      lacks = ap (score (lack role)) state ∙ well.0;
      pends = ap (score pend) state ∙ well.1;
      none = ups-row is_outcome finals true true outcomes_count key context step None timed.moment
          timed.input made trigger is ∙ ap (λ b. cond {A = ℕ} b 1 0) well.2;
    }

client_begins : (key : Key) → is_client (role_of key) ≡ true → (first : Timed Input)
    → IsSome (stepped key None first).0 → Begins (role_of key) (stepped key None first)
client_begins key client first =
    by_step (λ after. IsSome after.0 → Begins (role_of key) after) key None first
    (λ some. absurd (false≢true some)) (λ some. absurd (false≢true some))
    (λ step row. begun_well key first step row.trigger row.triggered
    (begins begins_well refl (role_of key) row.trigger step row.row) client
    (begun (role_of key) first.input))

-- ---- timer B or F

abbrev pub asks : Role → State → Bool
asks role state = lacks role state && not (is_invite_client role && pends state)

-- it fires at this moment
abbrev pub Asks : Role → ℕ → State → Context → Type 0
Asks role end state context = asks role state ≡ true → context.timers.ending ≡ Some end

abbrev pub HasAsked : Role → State → Context → Type 0
HasAsked role state context = asks role state ≡ false

abbrev is_both : Due → Bool
is_both Both = true
is_both due = false

abbrev pub keeps_end : Due → Bool
keeps_end Keep = true
keeps_end (Again pace) = true
keeps_end due = false

pub ending-kept : (due : Due) (now : ℕ) (dues : Dues) → keeps_end due ≡ true
    → (rearmed due now dues).ending ≡ dues.ending
ending-kept Keep now dues keeps = refl
ending-kept (Again pace) now dues keeps = refl
ending-kept due now dues keeps = absurd (false≢true keeps)

ending-both : (due : Due) (now : ℕ) (dues : Dues) → is_both due ≡ true
    → (rearmed due now dues).ending ≡ Some (now + LIFETIME)
ending-both Both now dues both = refl
ending-both due now dues both = absurd (false≢true both)

abbrev begins_asking : Role → Trigger → Step → Bool
begins_asking role trigger step =
    enters (λ state. not (asks role state) || is_both step.due) None step

abbrev asks_on : Role → State → Trigger → Step → Bool
asks_on role state trigger step =
    enters (λ next. not (asks role next) || (asks role state && keeps_end step.due))
    (Some state) step

pub first_asks : (key : Key) (first : Timed Input)
    → HeldIn (Asks (role_of key) (first.moment + LIFETIME)) (stepped key None first).0
first_asks key first =
    let role = role_of key in
    first_in (Asks role (first.moment + LIFETIME)) key first
    (λ trigger step is row context calm next into asking.
    ending-both step.due first.moment context.timers (implied (asks role next) _ asking
    (entered_passes (λ s. not (asks role s) || is_both step.due) None next step
    (begins begins_asking refl role trigger step row) into)))

asks_before : (role : Role) (state next : State) (trigger : Trigger) (step : Step)
    → asks_on role state trigger step ≡ true → entered step.next (Some state) ≡ Some next
    → asks role next ≡ true → (asks role state && keeps_end step.due) ≡ true
asks_before role state next trigger step ok into asking =
    implied (asks role next) _ asking
    (entered_passes (λ s. not (asks role s) || (asks role state && keeps_end step.due))
    (Some state) next step ok into)

pub next_asks : (key : Key) (end : ℕ) (life : Life) (timed : Timed Input)
    → Asks (role_of key) end life.state life.context
    → HeldIn (Asks (role_of key) end) (stepped key (Some life) timed).0
next_asks key end life timed asked =
    let role = role_of key in
    next_in (Asks role end) key life timed asked (λ trigger is next into asking.
    let step = rule role life.state trigger in
    let before = asks_before role life.state next trigger step
    (passes asks_on refl role life.state trigger) into asking in
    ending-kept step.due timed.moment life.context.timers (and-right (asks role life.state) _ before)
    ∙ asked (and-left (asks role life.state) _ before))

next_asked : (key : Key) (life : Life) (timed : Timed Input)
    → HasAsked (role_of key) life.state life.context
    → HeldIn (HasAsked (role_of key)) (stepped key (Some life) timed).0
next_asked key life timed asked =
    let role = role_of key in
    next_in (HasAsked role) key life timed asked (λ trigger is next into.
    by_test (asks role next) (λ asking. absurd (not_both _ (and-left (asks role life.state) _
    (asks_before role life.state next trigger (rule role life.state trigger)
    (passes asks_on refl role life.state trigger) into asking)) asked)) (λ other. other))

is_due_then : (now end : ℕ) (ending : Option ℕ) → ending ≡ Some end → nat_le end now ≡ true
    → is_due now ending ≡ true
is_due_then now end ending is late = ap (is_due now) is ∙ late

none_is : {X : Type 0} (o : Option X) → is_none o ≡ true → o ≡ None
none_is None is = refl
none_is (Some x) is = absurd (false≢true is)

-- at the tick it has fired
pub tick_asked : (key : Key) (end : ℕ) (life : Life) (now : ℕ)
    → IsTimed (role_of key) life.state life.context
    → Asks (role_of key) end life.state life.context → nat_le end now ≡ true
    → HeldIn (HasAsked (role_of key)) (stepped key (Some life) (tick_at now)).0
tick_asked key end life now timed asked late =
    by_test (asks (role_of key) life.state)
    (λ asking. subst (HeldIn (HasAsked (role_of key)))
    (sym (tick_ends key life now timed (is_due_then now end _ (asked asking) late))) tt)
    (λ other. next_asked key life (tick_at now) other)

has_asked : (key : Key) (end : ℕ) (held : Option Life) (inputs : List (Timed Input))
    → IsWithinLife step_machine key held inputs → HeldIn (IsTimed (role_of key)) held
    → HeldIn (Asks (role_of key) end) held → has_tick_from end inputs ≡ true
    → HeldIn (HasAsked (role_of key)) (state_from step_machine key held inputs)
has_asked key end held [] within timed asked found = absurd (false≢true found)
has_asked key end None (input ∷ inputs) within timed asked found = absurd (false≢true within.0)
has_asked key end (Some life) (input ∷ inputs) within timed asked found =
    let role = role_of key in
    let here = is_none input.input && nat_le end input.moment in
    by_test here
    (λ late. always_within (HasAsked role) key (next_asked key) (stepped key (Some life) input).0
    inputs within.1 (as_tick (λ t. HeldIn (HasAsked role) (stepped key (Some life) t).0) input
    (none_is input.input (and-left (is_none input.input) _ late))
    (tick_asked key end life input.moment timed asked
    (and-right (is_none input.input) _ late))))
    (λ early. has_asked key end (stepped key (Some life) input).0 inputs within.1
    (stays key life input timed) (next_asks key end life input asked)
    (sym (ap (λ b. b || has_tick_from end inputs) early) ∙ found))

-- ---- the laws

none_given : (inputs : List (Timed Input))
    → list_any (λ timed. is_abandon timed.input) inputs ≡ false → AllByRecursion NotGivenUp inputs
none_given [] none = tt
none_given (timed ∷ inputs) none =
    by_test (is_abandon timed.input)
    (λ given. absurd (not_both _ (ap (λ b. b || list_any (λ t. is_abandon t.input) inputs) given)
    none))
    (λ kept. (
      kept,
      none_given inputs
          (sym (ap (λ b. b || list_any (λ t. is_abandon t.input) inputs) kept) ∙ none),
    ))

module _ (key : Key) (inputs : List (Timed Input)) (life : LifeIn step_machine key inputs) where
  abbrev first : Option Life × List Out
  first = stepped key None life.first

  abbrev left : Option Life
  left = state_from step_machine key first.0 life.rest

  abbrev said : List Out
  said = outputs_from step_machine key first.0 life.rest

  within : IsWithinLife step_machine key first.0 life.rest
  within = is_within step_machine key inputs life

  begun_so : is_client (role_of key) ≡ true → Begins (role_of key) first
  begun_so client = client_begins key client life.first life.begins

  ups-life : (test : UpKind → Bool) → ups test (first.1 ++ said) ≡ ups test first.1 + ups test said
  ups-life test = sum_by-append (λ out. cond (is_up test out) 1 0) first.1 said

  -- timer B or F has fired
  fired : is_overdue life ≡ true → HeldIn (HasAsked (role_of key)) left
  fired over =
      elim (or_cases (is_none left) (has_tick_from (life.first.moment + LIFETIME) life.rest) over) [
        | inl gone ↦ subst (HeldIn (HasAsked (role_of key))) (sym (none_is left gone)) tt
        | inr late ↦ has_asked key (life.first.moment + LIFETIME) first.0 life.rest within
            (starts key life.first) (first_asks key life.first) late
      ]

  at_most_one : role_of key ≡ Client → ups is_outcome (first.1 ++ said) ≤ 1
  at_most_one client =
      let begins = begun_so (ap is_client client) in
      let once = rest_once key (ap is_plain_client client) first.0 life.rest (all_any life.rest)
      within in
      let none = begins.none in
      let lacks = begins.lacks in
      omega (arith, ups-life is_outcome, once, none, lacks)

  at_least_one : is_client (role_of key) ≡ true → is_given_up life ≡ false
      → 1 ≤ ups is_outcome (first.1 ++ said) + score (lack (role_of key)) (state_of left)
  at_least_one client kept =
      let lacks = (begun_so client).lacks in
      let enough = rest_enough key client first.0 life.rest (none_given life.rest kept) within in
      omega (arith, ups-life is_outcome, enough, lacks)

-- the client of another request than INVITE lacks a final response no more
asked_plain : (held : Option Life) → HeldIn (HasAsked Client) held
    → score (lack Client) (state_of held) ≡ 0
asked_plain None asked = refl
asked_plain (Some life) asked = by_state life.state asked
  where
    by_state : (state : State) → asks Client state ≡ false → lack Client state ≡ 0
    by_state Trying asked = absurd (false≢true (sym asked))
    by_state Proceeding asked = absurd (false≢true (sym asked))
    by_state state asked = refl

-- or that of an INVITE pends
asked_invite : (held : Option Life) → HeldIn (HasAsked InviteClient) held
    → (score (lack InviteClient) (state_of held) ≡ 0) ⊎ (state_of held ≡ Some Proceeding)
asked_invite None asked = inl refl
asked_invite (Some life) asked = by_state life.state asked
  where
    by_state : (state : State) → asks InviteClient state ≡ false
        → (lack InviteClient state ≡ 0) ⊎ (Some state ≡ Some Proceeding)
    by_state Calling asked = absurd (false≢true (sym asked))
    by_state Proceeding asked = inr refl
    by_state state asked = inl refl

pub at_most_one_outcome : AtMostOneOutcome step_machine
at_most_one_outcome key inputs life client = at_most_one key inputs life client

pub each_request_ends : EachRequestEnds step_machine
each_request_ends key inputs life client kept over =
    let most = at_most_one key inputs life client in
    let least = at_least_one key inputs life (ap is_client client) kept in
    let none : score (lack (role_of key)) (state_of (left key inputs life)) ≡ 0 =
    ap (λ role. score (lack role) (state_of (left key inputs life))) client
    ∙ asked_plain (left key inputs life)
    (subst (λ role. HeldIn (HasAsked role) (left key inputs life)) client
    (fired key inputs life over)) in
    omega (arith, most, least, none)

pub each_invite_ends : EachInviteEnds step_machine
each_invite_ends key inputs life client kept over =
    let lacks = at_least_one key inputs life (ap is_client client) kept in
    elim (asked_invite (left key inputs life)
    (subst (λ role. HeldIn (HasAsked role) (left key inputs life)) client
    (fired key inputs life over))) [
      | inl none ↦
          let gone : score (lack (role_of key)) (state_of (left key inputs life)) ≡ 0 =
          ap (λ role. score (lack role) (state_of (left key inputs life))) client ∙ none in
          inl (omega (arith, lacks, gone))
      | inr proceeding ↦
          let told = rest_progress key (ap is_invite_client client) (first key inputs life).0
          life.rest (all_any life.rest) (within key inputs life) in
          let none = (begun_so key inputs life (ap is_client client)).pends in
          let one : score pend (state_of (left key inputs life)) ≡ 1 =
          ap (score pend) proceeding in
          inr (proceeding, omega (arith, ups-life key inputs life is_progress, told, none, one))
    ]
